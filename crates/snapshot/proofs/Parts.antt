-- What save writes, part after part: the fresh cut's nodes as they are cut from the left, the contents and the bodies of parts one after
-- the other, and how many bytes they take. Assumes nothing.
use mathlib.Core.Path.{◌≡◌, refl, sym, ap, ◌∙◌}
use mathlib.Core.List.{List, [], ◌∷◌, ◌++◌, append_assoc, map}
use Prim.Native.Nat.{ℕ, ◌+◌, ◌*◌}
use native.Mathlib.Omega.{arith}
use lib.ListN.{length, length-append, length-map}
use Rattle.octets.specs.Bytes.{le}
use Rattle.id.specs.Bytes.{id_bytes}
use Rattle.id.proofs.Laws.{length_id_bytes}
use Rattle.node.specs.Message.{Message, Entry}
use Rattle.node.specs.Bytes.{key_of, node_bytes, node_size}
use Rattle.node.proofs.Laws.{node_size_lem}
use Rattle.stream.specs.Ledger.{Ledger}
use Rattle.stream.specs.Cut.{fresh_cut}
use Rattle.stream.specs.Fresh.{cut, numbered_from}
use Rattle.stream.proofs.Laws.{fresh_cut_lem}
use Rattle.snapshot.specs.Bytes.{Part, part, cut_part, node_part, group_part, parts_of, contents, bodies, snapshot_of}
use Rattle.snapshot.proofs.Table.{length_file}

numbered_parts : (s : ℕ) (ess : List (List Entry)) → map node_part (numbered_from s ess) ≡ map cut_part ess
unfolding numbered_from
numbered_parts s [] = refl
numbered_parts s (es ∷ ess) = ap (λ (ps : List Part). cut_part es ∷ ps) (numbered_parts (s + 1) ess)

pub cut_parts : (ms : List Message) → map node_part (fresh_cut ms) ≡ map cut_part (cut ms)
cut_parts ms = ap (map node_part) (fresh_cut_lem ms) ∙ numbered_parts 0 (cut ms)

pub parts_of_lem : (l : Ledger) → parts_of l ≡ part 1 (id_bytes l.last) ∷ (map cut_part (cut l.messages) ++ map group_part l.groups)
unfolding parts_of
parts_of_lem l = ap (λ (ps : List Part). part 1 (id_bytes l.last) ∷ (ps ++ map group_part l.groups)) (cut_parts l.messages)

-- parts one after the other
pub bodies_join : (ps qs : List Part) → bodies (ps ++ qs) ≡ bodies ps ++ bodies qs
unfolding bodies
bodies_join [] qs = refl
bodies_join (p ∷ ps) qs = ap (λ (l : List ℕ). p.body ++ l) (bodies_join ps qs) ∙ sym (append_assoc p.body (bodies ps) (bodies qs))

pub contents_join : (offset : ℕ) (ps qs : List Part) → contents offset (ps ++ qs) ≡ contents offset ps ++ contents (offset + length (bodies ps)) qs
unfolding contents bodies
contents_join offset [] qs = ap (λ (n : ℕ). contents n qs) (let e : offset ≡ offset + 0 = omega arith in e)
contents_join offset (p ∷ ps) qs =
    let s : ℕ = length p.body in
    let n : offset + s + length (bodies ps) ≡ offset + length (p.body ++ bodies ps) = omega (arith, length-append p.body (bodies ps)) in
    ap (λ (l : List ℕ). p.kind ∷ (le 4 offset ++ (le 4 s ++ l))) (contents_join (offset + s) ps qs ∙ ap (λ (k : ℕ). contents (offset + s) ps ++ contents k qs) n)
    ∙ ap (λ (l : List ℕ). p.kind ∷ (le 4 offset ++ l)) (sym (append_assoc (le 4 s) (contents (offset + s) ps) (contents (offset + length (p.body ++ bodies ps)) qs)))
    ∙ ap (λ (l : List ℕ). p.kind ∷ l) (sym (append_assoc (le 4 offset) (le 4 s ++ contents (offset + s) ps) (contents (offset + length (p.body ++ bodies ps)) qs)))

-- how many bytes a node takes, and a snapshot
pub cut_length : (es : List Entry) → length (cut_part es).body ≡ 16 + node_size es
cut_length es =
    omega (arith, length-append (id_bytes (key_of es)) (node_bytes es), length_id_bytes (key_of es), node_size_lem es)

pub cut_size : (es : List Entry) (ess : List (List Entry)) → length (bodies (map cut_part (es ∷ ess))) ≡ 16 + node_size es + length (bodies (map cut_part ess))
unfolding bodies
cut_size es ess = omega (arith, length-append (cut_part es).body (bodies (map cut_part ess)), cut_length es)

pub snapshot_size : (l : Ledger)
    → length (snapshot_of l) ≡ 28 + 9 * (length (cut l.messages) + length l.groups) + length (bodies (map cut_part (cut l.messages))) + length (bodies (map group_part l.groups))
unfolding snapshot_of
snapshot_size l =
    let ns : List Part = map cut_part (cut l.messages) in
    let gs : List Part = map group_part l.groups in
    omega (
      arith,
      length_file (parts_of l),
      ap length (parts_of_lem l),
      ap (λ (ps : List Part). length (bodies ps)) (parts_of_lem l),
      first (part 1 (id_bytes l.last)) (ns ++ gs),
      length_id_bytes l.last,
      length-append ns gs,
      ap length (bodies_join ns gs),
      length-append (bodies ns) (bodies gs),
      length-map (cut l.messages) cut_part,
      length-map l.groups group_part,
    )
  where
    first : (p : Part) (ps : List Part) → length (bodies (p ∷ ps)) ≡ length p.body + length (bodies ps)
    first p ps = unfold bodies in length-append p.body (bodies ps)
