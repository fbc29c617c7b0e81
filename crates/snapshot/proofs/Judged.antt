-- The structural test accepts exactly the snapshots, and finds their ledgers: judge_is. Assumes nothing.
use mathlib.Core.Path.{◌≡◌, refl, sym, ap, ap₂, ◌∙◌, subst}
use mathlib.Core.Bool.{Bool, true, false}
use mathlib.Core.List.{List, [], ◌∷◌, ◌++◌, map}
use Rattle.std.proofs.Common.{Option, Some, None}
use Prim.Native.Nat.{ℕ, ◌+◌, ◌≤◌}
use native.Mathlib.Omega.{arith}
use lib.Dec.{leb, eqb}
use lib.ListN.{length, drop, length-drop, take-append-drop}
use lib.Seq.{take_at, drop_at}
use borrow.Author.Tests.{le-leb, leb-true, eq-eqb, eqb-true}
use Rattle.octets.specs.Pick.{pick, both}
use Rattle.octets.specs.Maybe.{◌>>=◌, ◌>>◌, need}
use Rattle.octets.specs.Bytes.{Bytes}
use Rattle.octets.specs.Place.{area}
use Rattle.octets.specs.Compare.{comes_before}
use Rattle.octets.proofs.Laws.{needed, answered, some_is, both_true, both_of, area_front, length_area, bytes_take, bytes_drop, bytes_area}
use Rattle.id.specs.declared.Id.{Id}
use Rattle.id.specs.Bytes.{id_bytes, id_from}
use Rattle.id.proofs.Laws.{length_id_bytes, from_bytes_of, bytes_of_from, from_fits, id_fits, fits_id}
use Rattle.node.specs.Message.{Entry}
use Rattle.node.specs.Bytes.{key_of, node_bytes}
use Rattle.node.specs.Rules.{is_node}
use Rattle.node.proofs.Laws.{node_bytes_lem, node_size_lem, node_count_lem}
use Rattle.groups.specs.Group.{Group, pending_up_to, names_above}
use Rattle.groups.specs.Bytes.{body_bytes}
use Rattle.groups.specs.Parse.{parse_body}
use Rattle.groups.specs.Area.{names_of, are_groups}
use Rattle.groups.proofs.Laws.{body_parse, body_bytes_lem}
use Rattle.groups.proofs.Laws.{first, joined, sound, are_sound}
use Rattle.stream.specs.Ledger.{Ledger, is_ledger}
use Rattle.stream.specs.Cut.{fresh_cut}
use Rattle.stream.specs.Fresh.{cut, numbered_from, follows, is_chain}
use Rattle.stream.proofs.Laws.{chain_first, chain_more, followed, does_follow, cut_chain, fresh_cut_lem, fresh_length, cut_messages, chain_fresh, chain_messages, numbered_length, ledger_rules, is_ledger_lem}
use Rattle.snapshot.specs.Bytes.{Part, part, node_part, group_part, parts_of, bodies, file_of, snapshot_of}
use Rattle.snapshot.specs.Parse.{parse_snapshot}
use Rattle.snapshot.specs.Judge.{read_file, node_in, Nodes, nodes_then, judge_nodes, judge_groups, ledger_with, judge_rest, judge_parts, judge_file}
use Rattle.snapshot.proofs.Table.{read_file_lem, file_read}
use Rattle.snapshot.proofs.Loose.{node_body}
use Rattle.snapshot.proofs.Sizes.{parts_count, snapshot_most}
use Rattle.snapshot.proofs.Snapshots.{SnapshotOf, snapshot_parse, parse_snapshot_lem}

-- the groups of a ledger are accepted
groups_pass : (last : Id) (above : List ℕ) (gs : List Group) → are_groups last gs ≡ true → names_above above (names_of gs) ≡ true → judge_groups last above (map group_part gs) ≡ Some gs
unfolding judge_groups names_above
groups_pass last above [] a n = refl
groups_pass last above (g ∷ gs) a n =
    let f = first last g gs a in
    let p = both_true (comes_before above g.name) (names_above g.name (names_of gs)) n in
    rw (body_parse g f.is_group_lem, p.0, f.up_to_lem, groups_pass last g.name gs f.others p.1)

-- so are the nodes of a chain; groups end them
no_node : (last : Id) (before : List Entry) (gs : List Group) → judge_nodes last before (map group_part gs) ≡ Some (nodes_then [] (map group_part gs))
unfolding judge_nodes
no_node last before [] = refl
no_node last before (g ∷ gs) = refl

nodes_pass : (last : Id) (s : ℕ) (before : List Entry) (ess : List (List Entry)) (gs : List Group) → is_chain last before ess ≡ true
    → judge_nodes last before (map node_part (numbered_from s ess) ++ map group_part gs) ≡ Some (nodes_then ess (map group_part gs))
unfolding judge_nodes numbered_from node_in
nodes_pass last s before [] gs c = no_node last before gs
nodes_pass last s before (es ∷ ess) gs c =
    let k = chain_first last before es ess c in
    rw (node_body es k.0, does_follow last before es k.1, nodes_pass last (s + 1) es ess gs k.2)

-- a snapshot is accepted as its ledger's
rest_pass : (l : Ledger) → is_ledger l ≡ true → length (fresh_cut l.messages) ≤ 64 → judge_rest l.last (map node_part (fresh_cut l.messages) ++ map group_part l.groups) ≡ Some l
unfolding judge_rest
rest_pass l e h =
    let r = ledger_rules l e in
    let s = sound l.last l.groups r.groups_are in
    rw (
      fresh_cut_lem l.messages,
      nodes_pass l.last 0 [] (cut l.messages) l.groups (cut_chain l.last l.messages r.messages_are),
      le-leb (length (cut l.messages)) 64 (omega (arith, fresh_length l.messages)),
      groups_pass l.last [] l.groups s.groups s.rising,
      le-leb (length l.groups) 8 s.few,
      cut_messages l.messages,
    )

parts_pass : (l : Ledger) → is_ledger l ≡ true → length (fresh_cut l.messages) ≤ 64 → judge_parts (parts_of l) ≡ Some l
unfolding judge_parts parts_of
parts_pass l e h =
    rw (
      eq-eqb (length (id_bytes l.last)) 16 (length_id_bytes l.last),
      from_bytes_of l.last (id_fits l.last (ledger_rules l e).last_fits),
      rest_pass l e h,
    )

pub snapshot_judge : (l : Ledger) → is_ledger l ≡ true → length (fresh_cut l.messages) ≤ 64 → judge_file (snapshot_of l) ≡ Some l
unfolding judge_file snapshot_of
snapshot_judge l e h =
    rw (read_file_lem (parts_of l) (omega (arith, parts_count l e h)) (unfold snapshot_of in omega (arith, snapshot_most l e h)), parts_pass l e h)

-- the other way: the bytes of the first body, and of the others
first_bytes : (p : Part) (ps : List Part) → Bytes (bodies (p ∷ ps)) → Bytes p.body × Bytes (bodies ps)
unfolding bodies
first_bytes p ps b = (
  subst Bytes (take_at p.body (bodies ps) (length p.body) refl) (bytes_take (length p.body) b),
  subst Bytes (drop_at p.body (bodies ps) (length p.body) refl) (bytes_drop (length p.body) b),
)

part_is : (p : Part) (k : ℕ) (bs : List ℕ) → p.kind ≡ k → p.body ≡ bs → p ≡ part k bs
part_is p k bs e f = ap₂ part e f

-- a body that is read as a node is its key and its bytes
pub node_in_lem : (body : List ℕ) (es : List Entry) → Bytes body → node_in body ≡ Some es → (body ≡ id_bytes (key_of es) ++ node_bytes es) × (is_node es ≡ true)
unfolding node_in
node_in_lem body es b e =
    let s = node_bytes_lem (id_from (area 0 16 body)) (drop 16 body) es (bytes_drop 16 b) e in
    let l : 16 ≤ length body = omega (arith, length-drop 16 body, ap length s.bytes, node_size_lem es, node_count_lem es) in
    let k : area 0 16 body ≡ id_bytes (key_of es) =
    sym (bytes_of_from (area 0 16 body) (bytes_area 0 16 b) (length_area 0 16 body (omega arith))) ∙ ap id_bytes (sym s.key_is) in
    (sym (take-append-drop 16 body) ∙ ap₂ (λ (x y : List ℕ). x ++ y) (sym (area_front 16 body) ∙ k) s.bytes, s.rules)

record NodesJudged (last : Id) (before : List Entry) (ps : List Part) (x : Nodes) : Type 0 where
  parts : (s : ℕ) → ps ≡ map node_part (numbered_from s x.nodes) ++ x.rest
  chain : is_chain last before x.nodes ≡ true
  rest_bytes : Bytes (bodies x.rest)

-- one node more, and none
nodes_more : (last : Id) (before : List Entry) (p : Part) (ps : List Part) (es : List Entry) (y : Nodes) → Bytes p.body → p.kind ≡ 2 → node_in p.body ≡ Some es
    → follows last before es ≡ true → NodesJudged last es ps y → NodesJudged last before (p ∷ ps) (nodes_then (es ∷ y.nodes) y.rest)
unfolding numbered_from
nodes_more last before p ps es y b k e f j =
    let n = node_in_lem p.body es b e in
    record {
      parts = λ s. ap₂ (λ (q : Part) (qs : List Part). q ∷ qs) (part_is p 2 (id_bytes (key_of es) ++ node_bytes es) k n.0) (j.parts (s + 1));
      chain = chain_more last before es y.nodes n.1 (followed last before es f) j.chain;
      rest_bytes = j.rest_bytes;
    }

nodes_end : (last : Id) (before : List Entry) (ps : List Part) → Bytes (bodies ps) → NodesJudged last before ps (nodes_then [] ps)
unfolding numbered_from is_chain
nodes_end last before ps b = record { parts = λ s. refl; chain = refl; rest_bytes = b }

nodes_judged : (last : Id) (before : List Entry) (ps : List Part) (x : Nodes) → Bytes (bodies ps) → judge_nodes last before ps ≡ Some x → NodesJudged last before ps x
unfolding judge_nodes
nodes_judged last before [] x b e = subst (NodesJudged last before []) (some_is e) (nodes_end last before [] b)
nodes_judged last before (p ∷ ps) x b e = by (eqb p.kind 2) refl e (λ es y k. nodes_judged last es ps y (first_bytes p ps b).1 k)
  where
    by : (t : Bool) → eqb p.kind 2 ≡ t
        → pick t (node_in p.body >>= λ es. need (follows last before es) >> (judge_nodes last es ps >>= λ y. Some (nodes_then (es ∷ y.nodes) y.rest))) (Some (nodes_then [] (p ∷ ps))) ≡ Some x
        → ((es : List Entry) (y : Nodes) → judge_nodes last es ps ≡ Some y → NodesJudged last es ps y) → NodesJudged last before (p ∷ ps) x
    by true q e h =
        answered (node_in p.body) _ e λ es n k.
        needed (follows last before es) _ k λ f k2.
        answered (judge_nodes last es ps) _ k2 λ y j k3.
        subst (NodesJudged last before (p ∷ ps)) (some_is k3) (nodes_more last before p ps es y (first_bytes p ps b).0 (eqb-true p.kind 2 q) n f (h es y j))
    by false q e h = subst (NodesJudged last before (p ∷ ps)) (some_is e) (nodes_end last before (p ∷ ps) b)

record GroupsJudged (last : Id) (above : List ℕ) (ps : List Part) (gs : List Group) : Type 0 where
  parts : ps ≡ map group_part gs
  groups : are_groups last gs ≡ true
  rising : names_above above (names_of gs) ≡ true

groups_end : (last : Id) (above : List ℕ) → GroupsJudged last above [] []
unfolding are_groups names_above
groups_end last above = record { parts = refl; groups = refl; rising = refl }

groups_more : (last : Id) (above : List ℕ) (p : Part) (ps : List Part) (g : Group) (gs : List Group) → Bytes p.body → p.kind ≡ 3 → parse_body p.body ≡ Some g
    → both (comes_before above g.name) (pending_up_to last g.pending) ≡ true → GroupsJudged last g.name ps gs → GroupsJudged last above (p ∷ ps) (g ∷ gs)
unfolding names_above
groups_more last above p ps g gs b k e t j =
    let r = body_bytes_lem p.body g b e in
    let q = both_true (comes_before above g.name) (pending_up_to last g.pending) t in
    record {
      parts = ap₂ (λ (x : Part) (xs : List Part). x ∷ xs) (part_is p 3 (body_bytes g) k r.bytes) j.parts;
      groups = joined last g gs (record { is_group_lem = r.rules_kept; up_to_lem = q.1; others = j.groups });
      rising = both_of q.0 j.rising;
    }

groups_judged : (last : Id) (above : List ℕ) (ps : List Part) (gs : List Group) → Bytes (bodies ps) → judge_groups last above ps ≡ Some gs → GroupsJudged last above ps gs
unfolding judge_groups
groups_judged last above [] gs b e = subst (GroupsJudged last above []) (some_is e) (groups_end last above)
groups_judged last above (p ∷ ps) gs b e =
    needed (eqb p.kind 3) _ e λ t k.
    answered (parse_body p.body) _ k λ g r k2.
    needed (both (comes_before above g.name) (pending_up_to last g.pending)) _ k2 λ u k3.
    answered (judge_groups last g.name ps) _ k3 λ hs j k4.
    subst (GroupsJudged last above (p ∷ ps)) (some_is k4)
    (groups_more last above p ps g hs (first_bytes p ps b).0 (eqb-true p.kind 3 t) r u (groups_judged last g.name ps hs (first_bytes p ps b).1 j))

-- so what is accepted are the parts of that ledger
record PartsJudged (ps : List Part) (l : Ledger) : Type 0 where
  is_ledger_lem : is_ledger l ≡ true
  few_nodes : length (fresh_cut l.messages) ≤ 64
  parts : ps ≡ parts_of l

ledger_judged : (p : Part) (ps : List Part) (x : Nodes) (gs : List Group) → Bytes p.body → p.kind ≡ 1 → length p.body ≡ 16
    → NodesJudged (id_from p.body) [] ps x → length x.nodes ≤ 64 → GroupsJudged (id_from p.body) [] x.rest gs → length gs ≤ 8
    → PartsJudged (p ∷ ps) (ledger_with (id_from p.body) x.nodes gs)
unfolding parts_of
ledger_judged p ps x gs b k l n few g most =
    let last : Id = id_from p.body in
    let c = chain_fresh last x.nodes n.chain in
    record {
      is_ledger_lem =
          is_ledger_lem (ledger_with last x.nodes gs)
          (record {
            last_fits = fits_id last (from_fits p.body b l);
            messages_are = chain_messages last x.nodes n.chain;
            groups_are = are_sound last gs (record { few = most; rising = g.rising; groups = g.groups });
          });
      few_nodes = omega (arith, ap length c, numbered_length 0 x.nodes);
      parts =
          ap₂ (λ (q : Part) (qs : List Part). q ∷ qs) (part_is p 1 (id_bytes last) k (sym (bytes_of_from p.body b l)))
          (n.parts 0 ∙ ap₂ (λ (a b : List Part). a ++ b) (ap (map node_part) (sym c)) g.parts);
    }

parts_judged : (ps : List Part) (l : Ledger) → Bytes (bodies ps) → judge_parts ps ≡ Some l → PartsJudged ps l
unfolding judge_parts judge_rest
parts_judged [] l b e = absurd (let y : ◌≡◌ {A = ℕ} 0 1 = cc in omega arith)
parts_judged (p ∷ ps) l b e =
    let w = first_bytes p ps b in
    needed (both (eqb p.kind 1) (eqb (length p.body) 16)) _ e λ t k.
    answered (judge_nodes (id_from p.body) [] ps) _ k λ x n k2.
    needed (leb (length x.nodes) 64) _ k2 λ u k3.
    let j = nodes_judged (id_from p.body) [] ps x w.1 n in
    answered (judge_groups (id_from p.body) [] x.rest) _ k3 λ gs g k4.
    needed (leb (length gs) 8) _ k4 λ v k5.
    let q = both_true (eqb p.kind 1) (eqb (length p.body) 16) t in
    subst (PartsJudged (p ∷ ps)) (some_is k5)
    (ledger_judged p ps x gs w.0 (eqb-true p.kind 1 q.0) (eqb-true (length p.body) 16 q.1) j (leb-true (length x.nodes) 64 u)
    (groups_judged (id_from p.body) [] x.rest gs j.rest_bytes g) (leb-true (length gs) 8 v))

pub judge_snapshot : (f : List ℕ) (l : Ledger) → Bytes f → judge_file f ≡ Some l → SnapshotOf f l
unfolding judge_file snapshot_of
judge_snapshot f l b e =
    answered (read_file f) _ e λ ps r k.
    let w = file_read f ps b r in
    let j = parts_judged ps l w.bodies_bytes k in
    record { is_ledger_lem = j.is_ledger_lem; few_nodes = j.few_nodes; bytes = w.bytes ∙ ap file_of j.parts }

-- load accepts exactly the snapshots
pub judge_is : (f : List ℕ) → Bytes f → judge_file f ≡ parse_snapshot f
judge_is f b = by (judge_file f) (parse_snapshot f) refl refl
  where
    by : (o p : Option Ledger) → judge_file f ≡ o → parse_snapshot f ≡ p → o ≡ p
    by (Some l) p e q =
        let s = judge_snapshot f l b e in
        sym (snapshot_parse l s.is_ledger_lem s.few_nodes) ∙ ap parse_snapshot (sym s.bytes) ∙ q
    by None (Some l) e q =
        let s = parse_snapshot_lem f l q in
        sym e ∙ ap judge_file s.bytes ∙ snapshot_judge l s.is_ledger_lem s.few_nodes
    by None None e q = refl
