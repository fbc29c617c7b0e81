-- `gather` meets its contract: what is left to gather answers what the whole does. Assumes nothing.
use mathlib.Core.Bool.{true}
use mathlib.Core.Path.{◌≡◌, refl, sym, ap, ◌∙◌, subst}
use mathlib.Core.List.{List, ◌++◌}
use Rattle.std.proofs.Common.{Some, Option}
use Prim.Native.Nat.{ℕ, ◌+◌, ◌*◌, ◌-◌, ◌<◌, ◌≤◌}
use native.Mathlib.Omega.{arith}
use lib.ListN.{length, take}
use lib.Seq.{length-take-le}
use Rattle.octets.specs.Place.{area}
use Rattle.radix.specs.Gathering.{with_own}
use Rattle.radix.specs.Answer.{rows_of, Room, Within}
use Rattle.radix.specs.Record.{leads_on, value_of}
use Rattle.radix_bytes.specs.Bytes.{pool_in}
use Rattle.radix_bytes.proofs.Laws.{label_size}
use Rattle.keys.specs.Table.{tabled}
use Rattle.radix.proofs.Laws.{leads_to, gather_nil, gather_deep, gather_full, gather_below, gather_later}
use Rattle.radix_rows.proofs.Paths.{take_less, leads_none}
use Rattle.radix_rows.proofs.gather.+gather.Goals as goal
use Rattle.radix_rows.proofs.gather.+gather.Goals.{In-loop-p, After-extend, After-with_own, In_ok-with_own, In_ok-gather}

-- the loop is at a node, to which the link leads
on : {t : ℕ} → (c : In-loop-p t) → leads_on c.loop-p.rest c.loop-p.at ≡ true
on c = sym c.leads.ensures ∙ c.loop-p-test.true

up : {t : ℕ} → (c : In-loop-p t) → (0 < c.loop-p.rest) × (0 < c.loop-p.at) × (c.loop-p.at ≤ 256)
up c = leads_to c.loop-p.rest c.loop-p.at (sym c.leads.ensures ∙ c.loop-p-test.true)

long : {t : ℕ} → (c : In-loop-p t) → length (take c.args.d c.args.path.now) ≡ c.args.d
long c = length-take-le c.args.d c.args.path.now (omega (arith, c.requires.1.1.0, c.requires.1.1.1))

sized : {t : ℕ} → (c : In-loop-p t) → length (pool_in c.args.s.now).label ≡ 4096
sized c = label_size c.args.s.now c.requires.1.0

-- the path to the node, as far as its label goes
here : {t : ℕ} → (c : After-extend t) → let x = c.args in
    take (x.d + c.label_len-m.result) c.extend.new.path ≡ take x.d x.path.now ++ area (16 * (c.loop-p.at - 1)) c.label_len-m.result (pool_in x.s.now).label
here c =
    let x = c.args in
    c.extend.ensures.1 ∙ ap (λ (b : List ℕ). b ++ area (16 * (c.loop-p.at - 1)) c.label_len-m.result (pool_in x.s.now).label) c.loop-p.invariant.1.1.1.0

path_long : {t : ℕ} → (c : After-extend t) → length c.extend.new.path ≡ 16
path_long c = c.extend.auto.path ∙ c.loop-p.invariant.1.1.0 ∙ c.requires.1.1.1

own_is : {t : ℕ} → (c : After-with_own t) → let x = c.args in
    rows_of c.with_own.result c.with_own.new.t ≡ with_own (take (x.d + c.label_len-m.result) c.extend.new.path) (value_of (pool_in x.s.now) (c.loop-p.at - 1)) (tabled c.loop-p.t)
own_is c =
    let n = c.args.d + c.label_len-m.result in
    let z : n - 0 ≡ n = omega arith in
    c.with_own.ensures.0 ∙ ap (λ (j : ℕ). with_own (take j c.extend.new.path) (value_of (pool_in c.args.s.now) (c.loop-p.at - 1)) (tabled c.loop-p.t)) z

-- the rows with the node's own
own_room : {t : ℕ} → (c : In_ok-with_own t) → Room c.with_own.new.t
own_room c = subst (λ (r : Option (Unit {0})). Within r c.with_own.new.t) c.in_ok-with_own.was c.with_own.ensures.1

-- the rows with those below the node
below_room : {t : ℕ} → (c : In_ok-gather t) → Room c.gather.new.t
below_room c = subst (λ (r : Option (Unit {0})). Within r c.gather.new.t) c.in_ok-gather.was c.gather.ensures.1.0

pub returns-then-d-m-gt16 : goal.returns-then-d-m-gt16
returns-then-d-m-gt16 t c =
    let w = (goal.at.returns-then-d-m-gt16 t c).In-loop-p in
    let x = c.args in
    let l = c.loop-p in (
      gather_deep (pool_in x.s.now) l.rest l.at (take x.d x.path.now) (tabled l.t) (on w) x.d c.label_len-m.result (long w) (sized w) c.label_len-m.ensures.0 c.if-d-m-gt16.true
          ∙ l.invariant.1.1.1.1,
      (tt, l.invariant.1.1.1.0),
    )

pub returns-in_err-with_own : goal.returns-in_err-with_own
returns-in_err-with_own t c =
    let w = (goal.at.returns-in_err-with_own t c).In-loop-p in
    let e = (goal.at.returns-in_err-with_own t c).After-extend in
    let x = c.args in
    let l = c.loop-p in
    let u = c.with_own.new.t in
    rw c.from_residual.ensures (
      gather_full (pool_in x.s.now) l.rest l.at (take x.d x.path.now) (tabled l.t) (on w) x.d c.label_len-m.result (long w) (sized w) c.label_len-m.ensures.0 c.if-d-m-gt16.false (take (x.d + c.label_len-m.result) c.extend.new.path) (here e) (rows_of c.with_own.result u) (own_is (goal.at.returns-in_err-with_own t c).After-with_own) (ap (λ (r : Option (Unit {0})). rows_of r u) c.in_err-with_own.was)
          ∙ l.invariant.1.1.1.1,
      (tt, c.extend.ensures.0 ∙ l.invariant.1.1.1.0),
    )

pub returns-in_err-gather : goal.returns-in_err-gather
returns-in_err-gather t c =
    let w = (goal.at.returns-in_err-gather t c).In-loop-p in
    let e = (goal.at.returns-in_err-gather t c).After-extend in
    let x = c.args in
    let l = c.loop-p in
    let u = c.with_own.new.t in
    let v = c.gather.new.t in
    rw c.from_residual-in_err-gather.ensures (
      gather_below (pool_in x.s.now) l.rest l.at (take x.d x.path.now) (tabled l.t) (on w) x.d c.label_len-m.result (long w) (sized w) c.label_len-m.ensures.0 c.if-d-m-gt16.false (take (x.d + c.label_len-m.result) c.extend.new.path) (here e) (rows_of c.with_own.result u) (own_is (goal.at.returns-in_err-gather t c).After-with_own) (tabled u) (ap (λ (r : Option (Unit {0})). rows_of r u) c.in_ok-with_own.was) c.child_at-below.result c.child_at-below.ensures.0 (rows_of c.gather.result v) c.gather.ensures.0 (ap (λ (r : Option (Unit {0})). rows_of r v) c.in_err-gather.was)
          ∙ l.invariant.1.1.1.1,
      (tt, take_less x.d c.label_len-m.result _ _ c.gather.ensures.1.1 ∙ c.extend.ensures.0 ∙ l.invariant.1.1.1.0),
    )

pub loop-p-preserved-in-Continue-branch-2 : goal.loop-p-preserved-in-Continue-branch-2
loop-p-preserved-in-Continue-branch-2 t c =
    let w = (goal.at.loop-p-preserved-in-Continue-branch-2 t c).In-loop-p in
    let e = (goal.at.loop-p-preserved-in-Continue-branch-2 t c).After-extend in
    let x = c.args in
    let l = c.loop-p in
    let u = c.with_own.new.t in
    let v = c.gather.new.t in (
      below_room (goal.at.loop-p-preserved-in-Continue-branch-2 t c).In_ok-gather,
      (
        omega arith,
        (
          c.gather.auto.path ∙ c.extend.auto.path ∙ l.invariant.1.1.0,
          (
            take_less x.d c.label_len-m.result _ _ c.gather.ensures.1.1 ∙ c.extend.ensures.0 ∙ l.invariant.1.1.1.0,
            gather_later (pool_in x.s.now) l.rest l.at (take x.d x.path.now) (tabled l.t) (on w) x.d c.label_len-m.result (long w) (sized w) c.label_len-m.ensures.0 c.if-d-m-gt16.false (take (x.d + c.label_len-m.result) c.extend.new.path) (here e) (rows_of c.with_own.result u) (own_is (goal.at.loop-p-preserved-in-Continue-branch-2 t c).After-with_own) (tabled u) (ap (λ (r : Option (Unit {0})). rows_of r u) c.in_ok-with_own.was) c.child_at-below.result c.child_at-below.ensures.0 (rows_of c.gather.result v) c.gather.ensures.0 (tabled v) (ap (λ (r : Option (Unit {0})). rows_of r v) c.in_ok-gather.was) c.next_at-at.result c.next_at-at.ensures.0
                ∙ l.invariant.1.1.1.1,
          ),
        ),
      ),
    )

pub loop-p-preserved : goal.loop-p-preserved
loop-p-preserved t c =
    let w = (goal.at.loop-p-preserved t c).In-loop-p in
    let e = (goal.at.loop-p-preserved t c).After-extend in
    let x = c.args in
    let l = c.loop-p in
    let u = c.with_own.new.t in (
      own_room (goal.at.loop-p-preserved t c).In_ok-with_own,
      (
        omega arith,
        (
          c.extend.auto.path ∙ l.invariant.1.1.0,
          (
            c.extend.ensures.0 ∙ l.invariant.1.1.1.0,
            gather_later (pool_in x.s.now) l.rest l.at (take x.d x.path.now) (tabled l.t) (on w) x.d c.label_len-m.result (long w) (sized w) c.label_len-m.ensures.0 c.if-d-m-gt16.false (take (x.d + c.label_len-m.result) c.extend.new.path) (here e) (rows_of c.with_own.result u) (own_is (goal.at.loop-p-preserved t c).After-with_own) (tabled u) (ap (λ (r : Option (Unit {0})). rows_of r u) c.in_ok-with_own.was) c.child_at-below.result c.child_at-below.ensures.0 (Some (tabled u)) (gather_nil (pool_in x.s.now) (l.rest - 1) c.child_at-below.result _ _ (leads_none (l.rest - 1) c.child_at-below.result c.if-below-ne0.false)) (tabled u) refl c.next_at-at.result c.next_at-at.ensures.0
                ∙ l.invariant.1.1.1.1,
          ),
        ),
      ),
    )

pub gather-requires : goal.gather-requires
gather-requires t c =
    let w = (goal.at.gather-requires t c).In-loop-p in (
      omega (arith, up w, c.loop-p.invariant.1.0, c.decreases),
      (own_room (goal.at.gather-requires t c).In_ok-with_own, (c.requires.1.0, (c.if-d-m-gt16.false, path_long (goal.at.gather-requires t c).After-extend))),
    )

pub returns : goal.returns
returns t c =
    let x = c.args in
    let l = c.loop-p in (
      gather_nil (pool_in x.s.now) l.rest l.at _ _ (sym c.leads.ensures ∙ c.loop-p-test.false) ∙ l.invariant.1.1.1.1,
      (l.invariant.0, l.invariant.1.1.1.0),
    )
