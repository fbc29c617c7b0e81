-- The strict reader, from the left: each part is what was got and the bytes after it, or none. That it accepts exactly what is written is
-- the law of proofs/Laws (reply_here, reply_is). Assumes nothing.
use Rattle.std.specs.Prelude.{List, [], ◌∷◌, ℕ, zero, suc, ◌+◌, ◌-◌, ◌*◌, ◌/◌, ◌^◌, leb, ltb, eqb, length, take, drop, get_or, Option, Some, None}
use Rattle.octets.specs.Pick.{pick, both}
use Rattle.octets.specs.Maybe.{◌>>=◌, ◌>>◌, need}
use Rattle.decimal.specs.Integer.{is_digit}
use Rattle.id.specs.declared.Id.{Id}
use Rattle.id.specs.Id.{id_of, least, below}
use Rattle.node.specs.Message.{Pair, pair, Message, message, longest_string, is_pair_count}
use Rattle.node.specs.Step.{fits_alone}
use Rattle.resp.specs.Reply.{Reply, range, integer, error, is_count, is_refusal_number}

pub record Got (A : Type 0) : Type 0 where
  pub got : A
  pub rest : List ℕ

abbrev pub gives : {A : Type 0} → A → List ℕ → Got A
gives a s = record { got = a; rest = s }

-- a byte that must be there, and CR LF
unfoldable pub cut_byte : ℕ → List ℕ → Option (List ℕ)
cut_byte b [] = None
cut_byte b (x ∷ s) = do
  need (eqb x b)
  Some s

unfoldable pub cut_end : List ℕ → Option (List ℕ)
cut_end s = do
  r ← cut_byte 13 s
  cut_byte 10 r

-- the digits that follow those of n, as many as stand there; a number is below 2^64
unfoldable pub cut_digits : ℕ → List ℕ → Option (Got ℕ)
cut_digits n [] = Some (gives n [])
cut_digits n (b ∷ s) =
    pick (is_digit b)
    (do
      need (ltb (10 * n + (b - 48)) (2 ^ 64))
      cut_digits (10 * n + (b - 48)) s)
    (Some (gives n (b ∷ s)))

-- 0, or a digit 1-9 and the digits after it
unfoldable pub cut_number : List ℕ → Option (Got ℕ)
cut_number [] = None
cut_number (b ∷ s) =
    pick (eqb b 48) (Some (gives 0 s))
    (do
      need (both (leb 49 b) (leb b 57))
      cut_digits (b - 48) s)

unfoldable pub cut_head : ℕ → List ℕ → Option (Got ℕ)
cut_head b s = do
  r ← cut_byte b s
  n ← cut_number r
  t ← cut_end n.rest
  Some (gives n.got t)

-- at most 1,000 bytes; that they are there follows from the CR LF after them
unfoldable pub cut_bulk : List ℕ → Option (Got (List ℕ))
cut_bulk s = do
  n ← cut_head 36 s
  need (leb n.got longest_string)
  t ← cut_end (drop n.got n.rest)
  Some (gives (take n.got n.rest) t)

-- an ID that ends exactly at the end
unfoldable pub id_in : List ℕ → Option Id
id_in s = do
  ms ← cut_number s
  r ← cut_byte 45 ms.rest
  seq ← cut_number r
  need (eqb (length seq.rest) 0)
  Some (id_of ms.got seq.got)

-- what stands before the pairs of an entry: its ID, and how many pairs there are
pub record Opening : Type 0 where
  pub id : Id
  pub pairs : ℕ

abbrev pub opening_of : Id → ℕ → Opening
opening_of i n = record { id = i; pairs = n }

-- 1 to 32 pairs, so an even number of strings
unfoldable pub pairs_by : ℕ → Option ℕ
pairs_by n = do
  need (eqb (2 * (n / 2)) n)
  need (is_pair_count (n / 2))
  Some (n / 2)

unfoldable pub cut_opening : List ℕ → Option (Got Opening)
cut_opening s = do
  two ← cut_head 42 s
  need (eqb two.got 2)
  x ← cut_bulk two.rest
  i ← id_in x.got
  n ← cut_head 42 x.rest
  k ← pairs_by n.got
  Some (gives (opening_of i k) n.rest)

unfoldable pub cut_pairs : ℕ → List ℕ → Option (Got (List Pair))
cut_pairs zero s = Some (gives [] s)
cut_pairs (suc n) s = do
  f ← cut_bulk s
  v ← cut_bulk f.rest
  ps ← cut_pairs n v.rest
  Some (gives (pair f.got v.got ∷ ps.got) ps.rest)

-- alone a node of at most 4,095 bytes
unfoldable pub cut_entry : List ℕ → Option (Got Message)
cut_entry s = do
  o ← cut_opening s
  ps ← cut_pairs o.got.pairs o.rest
  need (fits_alone (message o.got.id ps.got))
  Some (gives (message o.got.id ps.got) ps.rest)

-- so many entries, IDs rising from above i
unfoldable pub cut_entries : ℕ → Id → List ℕ → Option (Got (List Message))
cut_entries zero i s = Some (gives [] s)
cut_entries (suc n) i s = do
  m ← cut_entry s
  need (below i m.got.id)
  ms ← cut_entries n m.got.id m.rest
  Some (gives (m.got ∷ ms.got) ms.rest)

-- ending exactly at the end
unfoldable pub parse_range : List ℕ → Option Reply
parse_range s = do
  n ← cut_head 42 s
  ms ← cut_entries n.got least n.rest
  need (eqb (length ms.rest) 0)
  Some (range ms.got)

unfoldable pub parse_integer : List ℕ → Option Reply
parse_integer s = do
  n ← cut_head 58 s
  need (is_count n.got)
  need (eqb (length n.rest) 0)
  Some (integer n.got)

unfoldable pub parse_error : List ℕ → Option Reply
parse_error s = do
  a ← cut_byte 45 s
  b ← cut_byte 69 a
  c ← cut_byte 82 b
  d ← cut_byte 82 c
  n ← cut_head 32 d
  need (is_refusal_number n.got)
  need (eqb (length n.rest) 0)
  Some (error n.got)

-- by its first byte
unfoldable pub parse_reply : List ℕ → Option Reply
parse_reply s =
    pick (eqb (get_or s 0 0) 42) (parse_range s)
    (pick (eqb (get_or s 0 0) 58) (parse_integer s) (parse_error s))
