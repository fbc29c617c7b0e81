-- What is told of an answer: from the engine's reply to what a C host gets. Assumes nothing.
use mathlib.Core.Path.{◌≡◌, refl, sym, ap, ap₂, ◌∙◌, subst}
use mathlib.Core.Bool.{Bool, true, false}
use mathlib.Core.List.{List, [], ◌∷◌, ◌++◌}
use Rattle.std.proofs.Common.{Option, Some, None}
use Prim.Native.Nat.{ℕ, zero, suc, ◌+◌, ◌≤◌}
use native.Mathlib.Omega.{arith}
use lib.Dec.{eqb}
use lib.ListN.{length, get_or, get_or-eq_default}
use Rattle.refusal.specs.declared.Refusal.TheVariants.{NoSlot, Damaged}
use Rattle.octets.specs.Place.{put}
use Rattle.stream.specs.Cut.{Model, empty_model, ledger_of}
use Rattle.stream.specs.Command as Stream
use Rattle.stream.specs.Command.{Answer, refused, done, given, counted, written, entry, reported, no_integers, moved, nothing, absent, not_moved, code_of}
use Rattle.stream.specs.Step.{step, beside_of}
use Rattle.stream.specs.Reply.{reply_of, output_by, Told, told, tell_in}
use Rattle.stream.specs.declared.Reply.{Reply}
use Rattle.stream.specs.Promise.{Lent, held_by, slots_of, FollowsBy, Becomes, SetsUpBy}
use Rattle.stream.proofs.Laws.{answer_step}
use Rattle.snapshot.specs.Command as Snapshot
use Rattle.snapshot.specs.Command.{Command, on_stream, save, load, save_reply, save_by, loaded, Loading, refusing, loading, is_set_up}
use Rattle.snapshot.specs.Promise.{Does, DoesStream, LoadsBy}
use Rattle.wallathi.specs.Export.{seen, numbers_of, over, tell_to}
use Rattle.wallathi.specs.Telling.{code_by, numbers_by, Tells}
use Rattle.wallathi.proofs.Fits.{Fits, room_by, room_of, stream_fits, save_fits}

-- a promise that tells t by f, told otherwise: u by g
module _ {T U : Type 0} (f : Answer → T) (g : Answer → U) (i j : Lent) (t : T) (u : U) where
  module _ (room : ℕ) (k : (a : Answer) → Fits room a → t ≡ f a → u ≡ g a) where
    becomes : (m : Model) → Becomes f m i t j → Becomes g m i u j
    becomes m d = record { told_is = k done tt d.told_is; size_kept = d.size_kept; holds = d.holds; tail_kept = d.tail_kept; index_is = d.index_is }

    sets_up : (b : Bool) → SetsUpBy f b i t j → SetsUpBy g b i u j
    sets_up true d = (k (refused NoSlot) tt d.0, d.1)
    sets_up false d = becomes empty_model d

    saves : (o : Option Model) → t ≡ f (save_by room o) → u ≡ g (save_by room o)
    saves None e = k (refused Damaged) tt e
    saves (Some m) e = k (save_reply room (ledger_of m)) (save_fits room (ledger_of m)) e

    loads : (x : Loading) → LoadsBy f x i t j → LoadsBy g x i u j
    loads (refusing n) d = (k (refused n) tt d.0, d.1)
    loads (loading l) d = becomes (loaded l) d

  follows : (c : Stream.Command) → ((a : Answer) → Fits (room_by c) a → t ≡ f a → u ≡ g a) → (o : Option Model) → FollowsBy f c o i t j → FollowsBy g c o i u j
  follows c k None d = (k (refused Damaged) tt d.0, d.1)
  follows c k (Some m) d =
      let s = step (slots_of i) c m in
      let h : Fits (room_by c) s.answer =
      subst (Fits (room_by c)) (sym (answer_step (slots_of i) c m)) (stream_fits c (beside_of (slots_of i) c m) (ledger_of m)) in
      record { told_is = k s.answer h d.told_is; size_kept = d.size_kept; holds = d.holds; tail_kept = d.tail_kept; kept = d.kept; index_kept = d.index_kept; index_bytes_lem = d.index_bytes_lem }

  does_stream : (c : Stream.Command) → ((a : Answer) → Fits (room_by c) a → t ≡ f a → u ≡ g a) → (b : Bool) → DoesStream f b c i t j → DoesStream g b c i u j
  does_stream c k true d = sets_up (room_by c) k (eqb (slots_of i) 0) d
  does_stream c k false d = follows c k (held_by i) d

  pub retell : (c : Command) → ((a : Answer) → Fits (room_of c) a → t ≡ f a → u ≡ g a) → Does f c i t j → Does g c i u j
  retell (on_stream c) k d = does_stream c k (is_set_up c) d
  retell (save room) k d = (saves room k (held_by i) d.0, d.1)
  retell (load file) k d = loads 0 k (Snapshot.loads (slots_of i) file) d

-- a reply tells what its answer tells
code_same : (a : Answer) → code_by (reply_of a) ≡ code_of a
code_same (refused n) = refl
code_same done = refl
code_same (given i) = refl
code_same (counted n) = refl
code_same (written bs) = refl
code_same (entry p lives) = refl
code_same (reported l o x) = refl
code_same (no_integers l o) = refl
code_same moved = refl
code_same nothing = refl
code_same absent = refl
code_same not_moved = refl

numbers_same : (a : Answer) → numbers_by (reply_of a) ≡ numbers_of a
numbers_same (refused n) = refl
numbers_same done = refl
numbers_same (given i) = refl
numbers_same (counted n) = refl
numbers_same (written bs) = refl
numbers_same (entry p lives) = refl
numbers_same (reported l o x) = refl
numbers_same (no_integers l o) = refl
numbers_same moved = refl
numbers_same nothing = refl
numbers_same absent = refl
numbers_same not_moved = refl

-- where there is no output none is written
no_output : (a : Answer) → Fits 0 a → [] ≡ output_by [] a
unfolding put
no_output (refused n) h = refl
no_output done h = refl
no_output (given i) h = refl
no_output (counted n) h = refl
no_output (written []) h = refl
no_output (written (b ∷ bs)) h = absurd (omega arith)
no_output (entry p lives) h = refl
no_output (reported l o x) h = refl
no_output (no_integers l o) h = refl
no_output moved h = refl
no_output nothing h = refl
no_output absent h = refl
no_output not_moved h = refl

seen_as : {r : Reply} {olds values : List ℕ} {code : ℕ} (before after : List ℕ) (a : Answer) → Tells r olds code values → r ≡ reply_of a
    → after ≡ output_by before a → seen code values after ≡ tell_to olds before a
seen_as {r} {olds} {values} {code} before after a t e o =
    let c : code ≡ code_of a = t.code_is ∙ ap code_by e ∙ code_same a in
    let v : values ≡ over (numbers_of a) olds = t.values_are ∙ ap (λ (x : Reply). over (numbers_by x) olds) e ∙ ap (λ (ns : List ℕ). over ns olds) (numbers_same a) in
    ap₂ (λ (n : ℕ) (ns : List ℕ). seen n ns after) c v ∙ ap (λ (bs : List ℕ). seen (code_of a) (over (numbers_of a) olds) bs) o

-- the promise of an exported function from that of the engine's, without an output and with one
module _ (i j : Lent) (c : Command) {d : Command} {r : Reply} {olds values : List ℕ} {code : ℕ} where
  pub exported : room_of c ≡ 0 → d ≡ c → Does reply_of d i r j → Tells r olds code values → Does (tell_to olds []) c i (seen code values []) j
  exported z e h t =
      retell reply_of (tell_to olds []) i j r (seen code values []) c (λ a f q. seen_as [] [] a t q (no_output a (subst (λ (n : ℕ). Fits n a) z f)))
      (subst (λ (x : Command). Does reply_of x i r j) e h)

  pub exported_out : (before after : List ℕ) → d ≡ c → Does (tell_in before) d i (told r after) j → Tells r olds code values
      → Does (tell_to olds before) c i (seen code values after) j
  exported_out before after e h t =
      retell (tell_in before) (tell_to olds before) i j (told r after) (seen code values after) c
      (λ a f q. seen_as before after a t (ap (λ (x : Told). x.reply) q) (ap (λ (x : Told). x.output) q))
      (subst (λ (x : Command). Does (tell_in before) x i (told r after) j) e h)

-- the out-parameters by their places
placed : ℕ → List ℕ → List ℕ → List ℕ
placed k ns [] = []
placed k ns (o ∷ olds) = get_or ns k o ∷ placed (suc k) ns olds

placed_none : (k : ℕ) (olds : List ℕ) → olds ≡ placed k [] olds
unfolding placed
placed_none k [] = refl
placed_none k (o ∷ olds) = ap (λ (l : List ℕ). o ∷ l) (placed_none (suc k) olds)

placed_more : (k n : ℕ) (ns olds : List ℕ) → placed k ns olds ≡ placed (suc k) (n ∷ ns) olds
unfolding placed
placed_more k n ns [] = refl
placed_more k n ns (o ∷ olds) = ap (λ (l : List ℕ). get_or ns k o ∷ l) (placed_more (suc k) n ns olds)

over_placed : (ns olds : List ℕ) → over ns olds ≡ placed 0 ns olds
unfolding placed
over_placed [] olds = placed_none 0 olds
over_placed (n ∷ ns) [] = refl
over_placed (n ∷ ns) (o ∷ olds) = ap (λ (l : List ℕ). n ∷ l) (over_placed ns olds ∙ placed_more 0 n ns olds)

-- one by one: from the place k on, out-parameters that held `olds` hold these values
pub data Numbers (ns : List ℕ) : ℕ → List ℕ → List ℕ → Type 0 where
  no_more : {k : ℕ} → Numbers ns k [] []
  number : {k a o : ℕ} {olds values : List ℕ} → a ≡ get_or ns k o → Numbers ns (suc k) olds values → Numbers ns k (o ∷ olds) (a ∷ values)

each_placed : {ns : List ℕ} {k : ℕ} {olds values : List ℕ} → Numbers ns k olds values → values ≡ placed k ns olds
unfolding placed
each_placed no_more = refl
each_placed (number p q) = ap₂ (λ (n : ℕ) (l : List ℕ). n ∷ l) p (each_placed q)

pub numbers : (ns olds : List ℕ) {values : List ℕ} → Numbers ns 0 olds values → values ≡ over ns olds
numbers ns olds x = each_placed x ∙ sym (over_placed ns olds)

-- a place that is none of those after xs
pub past : (xs ys : List ℕ) (k old : ℕ) → (length xs ≤ k → length xs + length ys ≤ k) → get_or xs k old ≡ get_or (xs ++ ys) k old
past [] ys k old h = sym (get_or-eq_default ys old (omega (arith, h (omega arith))))
past (x ∷ xs) ys zero old h = refl
past (x ∷ xs) ys (suc k) old h = past xs ys k old (λ n. omega (arith, h (omega arith)))
