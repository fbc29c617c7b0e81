-- Where each group's region lies in an area: what it reads there, and a region changed in place, put in, or taken out. Assumes nothing.
use mathlib.Core.Path.{◌≡◌, refl, sym, ap, ap₂, ◌∙◌}
use mathlib.Core.Bool.{true}
use mathlib.Core.List.{List, [], ◌∷◌, ◌++◌, append_assoc, append-nil}
use Prim.Native.Nat.{ℕ, suc, ◌+◌, ◌-◌, ◌*◌, ◌≤◌, ◌<◌}
use native.Mathlib.Omega.{arith}
use lib.ListN.{length, take, drop, length-append, length-replicate, replicate-append-replicate}
use lib.Seq.{take_at, drop_at, take-append-add, drop-append-add}
use Rattle.octets.specs.Bytes.{zeros}
use Rattle.octets.specs.Place.{area, put}
use Rattle.octets.proofs.Laws.{put_append, put_swap, area_middle, area_right, put_middle}
use Rattle.id.specs.declared.Id.{Id}
use Rattle.groups.specs.Group.{Group, is_group}
use Rattle.groups.specs.Bytes.{region_bytes}
use Rattle.groups.specs.Area.{are_groups, regions, area_bytes}
use Rattle.groups.proofs.Laws.{First, first, joined, length_regions, regions_append, rules, length_region}

put_end : (xs ys bs : List ℕ) (at : ℕ) → length xs ≡ at → length bs ≡ length ys → put (xs ++ ys) at bs ≡ xs ++ bs
put_end xs ys bs at p q =
    ap (λ (l : List ℕ). put (xs ++ l) at bs) (sym (append-nil ys)) ∙ put_middle xs ys [] bs at p q ∙ ap (λ (l : List ℕ). xs ++ l) (append-nil bs)

zeros_take : (n z : ℕ) → n ≤ z → take n (zeros z) ≡ zeros n
zeros_take n z h =
    let e : z ≡ n + (z - n) = omega arith in
    ap (λ (k : ℕ). take n (zeros k)) e
    ∙ ap (take n) (sym (replicate-append-replicate {A = ℕ} n (z - n) 0))
    ∙ take_at (zeros n) (zeros (z - n)) n (length-replicate {A = ℕ} n 0)

module _ (last : Id) where
  pub are_left : (xs ys : List Group) → are_groups last (xs ++ ys) ≡ true → are_groups last xs ≡ true
  are_left [] ys e = unfold are_groups in refl
  are_left (g ∷ xs) ys e =
      let f = first last g (xs ++ ys) e in
      joined last g xs (record { is_group_lem = f.is_group_lem; up_to_lem = f.up_to_lem; others = are_left xs ys f.others })

  pub are_right : (xs ys : List Group) → are_groups last (xs ++ ys) ≡ true → are_groups last ys ≡ true
  are_right [] ys e = e
  are_right (g ∷ xs) ys e = are_right xs ys (first last g (xs ++ ys) e).others

-- the free bytes after so many groups
abbrev free : ℕ → List ℕ
free n = zeros (57760 - n * 7220)

length_free : (n : ℕ) → length (free n) ≡ 57760 - n * 7220
length_free n = length-replicate {A = ℕ} (57760 - n * 7220) 0

split : (front back : List Group) → area_bytes (front ++ back) ≡ regions front ++ (regions back ++ free (length (front ++ back)))
unfolding area_bytes
split front back =
    ap (λ (l : List ℕ). l ++ free (length (front ++ back))) (regions_append front back)
    ∙ append_assoc (regions front) (regions back) (free (length (front ++ back)))

split_one : (front : List Group) (g : Group) (back : List Group)
    → area_bytes (front ++ (g ∷ back)) ≡ regions front ++ (region_bytes g ++ (regions back ++ free (length (front ++ (g ∷ back)))))
unfolding regions
split_one front g back =
    split front (g ∷ back) ∙ ap (λ (l : List ℕ). regions front ++ l) (append_assoc (region_bytes g) (regions back) (free (length (front ++ (g ∷ back)))))

length_one : (front : List Group) (g : Group) (back : List Group) → length (front ++ (g ∷ back)) ≡ length front + suc (length back)
length_one front g back = length-append front (g ∷ back)

-- region k, free
pub region_free : (last : Id) (gs : List Group) (k : ℕ) → are_groups last gs ≡ true → length gs ≤ k → k < 8
    → area (k * 7220) 7220 (area_bytes gs) ≡ zeros 7220
unfolding area_bytes area
region_free last gs k e h m =
    let f : List ℕ = regions gs in
    let d : ℕ = k * 7220 - length gs * 7220 in
    let n : ℕ = 57760 - length gs * 7220 in
    let l = length_regions last gs e in
    let q : k * 7220 ≡ length f + d = omega arith in
    let r : n ≡ d + (n - d) = omega arith in
    ap (λ (i : ℕ). take 7220 (drop i (f ++ zeros n))) q
    ∙ ap (take 7220) (drop-append-add f (zeros n) d)
    ∙ ap (λ (i : ℕ). take 7220 (drop d (zeros i))) r
    ∙ ap (λ (x : List ℕ). take 7220 (drop d x)) (sym (replicate-append-replicate {A = ℕ} d (n - d) 0))
    ∙ ap (take 7220) (drop_at (zeros d) (zeros (n - d)) d (length-replicate {A = ℕ} d 0))
    ∙ zeros_take 7220 (n - d) (omega arith)

module _ (last : Id) (front : List Group) (back : List Group) where
  abbrev at : ℕ
  at = length front * 7220

  -- with a group between them
  module _ (g : Group) (e : are_groups last (front ++ (g ∷ back)) ≡ true) where
    in_front : length (regions front) ≡ at
    in_front = length_regions last front (are_left last front (g ∷ back) e)

    rest : First last g back
    rest = first last g back (are_right last front (g ∷ back) e)

    one : length (region_bytes g) ≡ 7220
    one = length_region g (rules g rest.is_group_lem)

    pub region_at : area (length front * 7220) 7220 (area_bytes (front ++ (g ∷ back))) ≡ region_bytes g
    region_at =
        ap (area at 7220) (split_one front g back)
        ∙ area_middle (regions front) (region_bytes g) (regions back ++ free (length (front ++ (g ∷ back)))) at 7220 in_front one

    -- changed in place
    pub region_put : (h : Group) → is_group h ≡ true
        → put (area_bytes (front ++ (g ∷ back))) (length front * 7220) (region_bytes h) ≡ area_bytes (front ++ (h ∷ back))
    region_put h k =
        let q : length (front ++ (g ∷ back)) ≡ length (front ++ (h ∷ back)) = length_one front g back ∙ sym (length_one front h back) in
        ap (λ (s : List ℕ). put s at (region_bytes h)) (split_one front g back)
        ∙ put_middle (regions front) (region_bytes g) (regions back ++ free (length (front ++ (g ∷ back)))) (region_bytes h) at in_front
        (length_region h (rules h k) ∙ sym one)
        ∙ ap (λ (n : ℕ). regions front ++ (region_bytes h ++ (regions back ++ free n))) q
        ∙ sym (split_one front h back)

    -- taken out: the regions after it move down, and the last is cleared
    pub region_out : length (front ++ (g ∷ back)) ≤ 8
        → let s : List ℕ = area_bytes (front ++ (g ∷ back)) in
        let k : ℕ = length front * 7220 in
        put (put s k (area (k + 7220) (50540 - k) s)) 50540 (zeros 7220) ≡ area_bytes (front ++ back)
    region_out h =
        let n : ℕ = length (front ++ (g ∷ back)) in
        let ln : n ≡ length front + suc (length back) = length_one front g back in
        let m : ℕ = length (front ++ back) in
        let lm : m ≡ length front + length back = length-append front back in
        let f : List ℕ = regions front in
        let x : List ℕ = regions back ++ free n in
        let s : List ℕ = f ++ (region_bytes g ++ x) in
        let lx : length x ≡ 50540 - at =
        omega (arith, length-append (regions back) (free n), length_regions last back rest.others, length_free n) in
        let lf = in_front in
        let lo = one in
        let ls : length s ≡ 57760 = omega (arith, length-append f (region_bytes g ++ x), length-append (region_bytes g) x) in
        let moved : area (at + 7220) (50540 - at) s ≡ x =
        ap (area (at + 7220) (50540 - at)) (sym (append_assoc f (region_bytes g) x))
        ∙ area_right (f ++ region_bytes g) x (at + 7220) (50540 - at) (omega (arith, length-append f (region_bytes g))) lx in
        let to : 50540 ≡ at + length x = omega arith in
        let z : 57760 - n * 7220 + 7220 ≡ 57760 - m * 7220 = omega arith in
        ap (λ (l : List ℕ). put (put l at (area (at + 7220) (50540 - at) l)) 50540 (zeros 7220)) (split_one front g back)
        ∙ ap₂ (λ (l : List ℕ) (i : ℕ). put (put s at l) i (zeros 7220)) moved to
        ∙ put_append s at x (zeros 7220) (omega arith)
        ∙ put_end f (region_bytes g ++ x) (x ++ zeros 7220) at lf
        (omega (arith, length-append x (zeros 7220), length-append (region_bytes g) x, length-replicate {A = ℕ} 7220 0))
        ∙ ap (λ (l : List ℕ). f ++ l)
        (append_assoc (regions back) (free n) (zeros 7220)
        ∙ ap (λ (l : List ℕ). regions back ++ l) (replicate-append-replicate {A = ℕ} (57760 - n * 7220) 7220 0 ∙ ap zeros z))
        ∙ sym (split front back)

  -- put in: the regions from there on move up, the last of them free
  pub region_in : (g : Group) → are_groups last (front ++ back) ≡ true → length (front ++ back) < 8 → length (region_bytes g) ≡ 7220
      → let s : List ℕ = area_bytes (front ++ back) in
      let k : ℕ = length front * 7220 in
      put (put s (k + 7220) (area k (50540 - k) s)) k (region_bytes g) ≡ area_bytes (front ++ (g ∷ back))
  unfolding area
  region_in g e h lr =
      let n : ℕ = length (front ++ (g ∷ back)) in
      let ln : n ≡ length front + suc (length back) = length_one front g back in
      let m : ℕ = length (front ++ back) in
      let lm : m ≡ length front + length back = length-append front back in
      let f : List ℕ = regions front in
      let b : List ℕ = regions back in
      let s : List ℕ = f ++ (b ++ free m) in
      let r : List ℕ = region_bytes g in
      let y : List ℕ = b ++ free n in
      let lf : length f ≡ at = length_regions last front (are_left last front back e) in
      let lb : length b ≡ length back * 7220 = length_regions last back (are_right last front back e) in
      let lx : length (b ++ free m) ≡ 57760 - at = omega (arith, length-append b (free m), length_free m) in
      let ly : length y ≡ 50540 - at = omega (arith, length-append b (free n), length_free n) in
      let ls : length s ≡ 57760 = omega (arith, length-append f (b ++ free m)) in
      let q : 50540 - at ≡ length b + (57760 - n * 7220) = omega arith in
      let moved : take (50540 - at) (drop at s) ≡ y =
      ap (take (50540 - at)) (drop_at f (b ++ free m) at lf)
      ∙ ap (λ (i : ℕ). take i (b ++ free m)) q
      ∙ take-append-add b (free m) (57760 - n * 7220)
      ∙ ap (λ (l : List ℕ). b ++ l) (zeros_take (57760 - n * 7220) (57760 - m * 7220) (omega arith)) in
      let to : at + 7220 ≡ at + length r = omega arith in
      ap (λ (l : List ℕ). put (put l (at + 7220) (take (50540 - at) (drop at l))) at r) (split front back)
      ∙ ap₂ (λ (i : ℕ) (l : List ℕ). put (put s i l) at r) to moved
      ∙ sym (put_swap s at r (at + length r) y (omega arith) (omega arith))
      ∙ put_append s at r y (omega arith)
      ∙ put_end f (b ++ free m) (r ++ y) at lf (omega (arith, length-append r y))
      ∙ sym (split_one front g back)
