-- Lists of commands that are joined, over any step function. Assumes nothing.
use mathlib.Core.Path.{◌≡◌, refl, sym, ap, ◌∙◌}
use mathlib.Core.List.{List, [], ◌∷◌, ◌++◌}
use lib.ListN.{length, take, drop}
use lib.Seq.{take_at, drop_at}
use Rattle.stream.specs.Run.{Turn, run, answers}

-- two lists cut at one place
pub cut_same : {A : Type 0} (xs ys us vs : List A) → xs ++ ys ≡ us ++ vs → length xs ≡ length us → (xs ≡ us) × (ys ≡ vs)
cut_same xs ys us vs e n = (
  sym (take_at xs ys (length us) n) ∙ ap (take (length us)) e ∙ take_at us vs (length us) refl,
  sym (drop_at xs ys (length us) n) ∙ ap (drop (length us)) e ∙ drop_at us vs (length us) refl,
)

module _ {C A H : Type 0} (turn : C → H → Turn A H) where
  run_join : (cs ds : List C) (h : H) → run turn (cs ++ ds) h ≡ run turn ds (run turn cs h)
  unfolding run
  run_join [] ds h = refl
  run_join (c ∷ cs) ds h = run_join cs ds (turn c h).after

  answers_join : (cs ds : List C) (h : H) → answers turn (cs ++ ds) h ≡ answers turn cs h ++ answers turn ds (run turn cs h)
  unfolding run answers
  answers_join [] ds h = refl
  answers_join (c ∷ cs) ds h = ap (λ (xs : List A). (turn c h).answer ∷ xs) (answers_join cs ds (turn c h).after)

  -- one command c in a list, and others in its place that leave the same
  module _ (cs : List C) (c : C) (ds : List C) (h : H) where
    pub answers_at : answers turn (cs ++ (c ∷ ds)) h ≡ answers turn cs h ++ ((turn c (run turn cs h)).answer ∷ answers turn ds (turn c (run turn cs h)).after)
    unfolding answers
    answers_at = answers_join cs (c ∷ ds) h

    module _ (bs : List C) (e : run turn bs (run turn cs h) ≡ (turn c (run turn cs h)).after) where
      pub run_instead : run turn (cs ++ (c ∷ ds)) h ≡ run turn (cs ++ (bs ++ ds)) h
      unfolding run
      run_instead = run_join cs (c ∷ ds) h ∙ ap (run turn ds) (sym e) ∙ sym (run_join cs (bs ++ ds) h ∙ run_join bs ds (run turn cs h))

      pub answers_instead : answers turn (cs ++ (bs ++ ds)) h
          ≡ answers turn cs h ++ (answers turn bs (run turn cs h) ++ answers turn ds (turn c (run turn cs h)).after)
      answers_instead =
          answers_join cs (bs ++ ds) h
          ∙ ap (λ (xs : List A). answers turn cs h ++ xs)
          (answers_join bs ds (run turn cs h) ∙ ap (λ (k : H). answers turn bs (run turn cs h) ++ answers turn ds k) e)
