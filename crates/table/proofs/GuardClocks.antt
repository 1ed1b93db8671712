-- Which guards hold a clock, and which of them hold all clocks of a stretch.
use Rattle.std.proofs.Common.{◌≡◌, ℕ, ◌+◌, ◌-◌, ◌*◌, ◌/◌, ◌%◌, ◌<◌, ◌≤◌, true, false, ltb, leb, sym, refl, ap, ◌∙◌, subst, ⊎_elim, mod-lt, mul-le-mul_left, mul-one, mul-add, arith}
use native.Mathlib.Nat.{div-add-mod, le_of_mul-le-mul_left, lt_of_mul-lt-mul_left}
use Rattle.std.proofs.lemmas.Bool.{ltb-true, ltb-false, leb-true, leb-false, lt-ltb, le-ltb, le-leb, lt-leb, both_ways, and_parts, and_from, cases_lt, cases_eq}
use Rattle.text.specs.declared.draft.End.{End}
use Rattle.text.specs.declared.draft.End.TheVariants.{Shut, Open}
use Rattle.text.specs.declared.draft.High.{High}
use Rattle.text.specs.declared.draft.High.TheVariants.{At, Inf}
use Rattle.text.specs.declared.draft.Guard.{Guard}
use Rattle.text.specs.declared.draft.State.{State}
use Rattle.text.specs.declared.draft.State.TheVariants.{Stay, Hold}
use Rattle.text.specs.declared.draft.Draft.{Draft}
use Rattle.text.specs.Draft.{row_at, state_at, high_day}
use Rattle.table.specs.Guard.{half_days, above_low, below_high, contains, empty_between, empty, ends_past, last_end}
use Rattle.table.specs.Sound.{past_timeout}
use Rattle.table.specs.Stretch.{stretch_count, stretches}
use Rattle.table.specs.Clocks.{Clock, Lies, Reaches, Empty, Past, stretch_by, Contains}
use Rattle.table.specs.Word.{ticks}
use Rattle.table.proofs.Ticks.{odd_none, odd_some, half_days as ticks_halves}
use Rattle.table.specs.Stretches.{row_end}

-- a clock lies between the ends
record Inside (m : ℕ) (e : End) (h : High) (x : Clock) : Type 0 where
  above : above_low x.a_day m e x.parts ≡ true
  below : below_high x.a_day h x.parts ≡ true

lies_inside : (g : Guard) (x : Clock) → Lies g x → Inside g.low g.end g.high x
lies_inside g x l = let b = and_parts _ _ l in record { above = b.0; below = b.1 }

-- ends with a clock between them are not empty
inside_some : (m : ℕ) (e : End) (h : High) (x : Clock) → Inside m e h x → empty_between m e h ≡ false
inside_some m Shut (At n Shut) x i =
    le-ltb _ _ (le_of_mul-le-mul_left {k = x.a_day} (omega (arith, leb-true _ _ i.above, leb-true _ _ i.below)) (omega (arith, x.some)))
inside_some m Open (At n Shut) x i = lt-leb _ _ (lt_of_mul-lt-mul_left x.a_day (omega (arith, ltb-true _ _ i.above, leb-true _ _ i.below)))
inside_some m Shut (At n Open) x i = lt-leb _ _ (lt_of_mul-lt-mul_left x.a_day (omega (arith, leb-true _ _ i.above, ltb-true _ _ i.below)))
inside_some m Open (At n Open) x i = lt-leb _ _ (lt_of_mul-lt-mul_left x.a_day (omega (arith, ltb-true _ _ i.above, ltb-true _ _ i.below)))
inside_some m Shut Inf x i = refl
inside_some m Open Inf x i = refl

-- a clock of t days or more that is not above the high end
inside_past : (t : ℕ) (h : High) (x : Clock) → Reaches t x → below_high x.a_day h x.parts ≡ true → ends_past t h ≡ true
inside_past t (At n Shut) x l b = le-leb _ _ (le_of_mul-le-mul_left {k = x.a_day} (omega (arith, leb-true _ _ b)) (omega (arith, x.some)))
inside_past t (At n Open) x l b = lt-ltb _ _ (lt_of_mul-lt-mul_left x.a_day (omega (arith, ltb-true _ _ b)))
inside_past t Inf x l b = refl

-- a clock of whole days, and one of half days
days : ℕ → Clock
days n = record { a_day = 1; some = omega arith; parts = n }

abbrev halves : ℕ → Clock
halves n = record { a_day = half_days; some = omega arith; parts = n }

-- the latest clock between the ends, or a later one than t days
late : (t m : ℕ) (e : End) (h : High) → empty_between m e h ≡ false → ends_past t h ≡ true → (x : Clock) × Inside m e h x × Reaches t x
unfolding days
late t m Shut (At n Shut) e p =
    let a = ltb-false _ _ e in
    let b = leb-true _ _ p in
    (days n, record { above = le-leb _ _ (omega arith); below = le-leb _ _ (omega arith) }, omega arith)
late t m Open (At n Shut) e p =
    let a = leb-false _ _ e in
    let b = leb-true _ _ p in
    (days n, record { above = lt-ltb _ _ (omega arith); below = le-leb _ _ (omega arith) }, omega arith)
late t m Shut (At n Open) e p =
    let a = leb-false _ _ e in
    let b = ltb-true _ _ p in
    (halves (2 * n - 1), record { above = le-leb _ _ (omega arith); below = lt-ltb _ _ (omega arith) }, omega arith)
late t m Open (At n Open) e p =
    let a = leb-false _ _ e in
    let b = ltb-true _ _ p in
    (halves (2 * n - 1), record { above = lt-ltb _ _ (omega arith); below = lt-ltb _ _ (omega arith) }, omega arith)
late t m Shut Inf e p = (days (m + t + 1), record { above = le-leb _ _ (omega arith); below = refl }, omega arith)
late t m Open Inf e p = (days (m + t + 1), record { above = lt-ltb _ _ (omega arith); below = refl }, omega arith)

-- ends that are not empty pass the start
passes_start : (m : ℕ) (e : End) (h : High) → empty_between m e h ≡ false → ends_past 0 h ≡ true
passes_start m Shut (At n Shut) e = le-leb _ _ (omega arith)
passes_start m Open (At n Shut) e = le-leb _ _ (omega arith)
passes_start m Shut (At n Open) e = lt-ltb _ _ (omega (arith, leb-false _ _ e))
passes_start m Open (At n Open) e = lt-ltb _ _ (omega (arith, leb-false _ _ e))
passes_start m Shut Inf e = refl
passes_start m Open Inf e = refl

late_lies : (t : ℕ) (g : Guard) → empty g ≡ false → ends_past t g.high ≡ true → (x : Clock) × Lies g x × Reaches t x
late_lies t g e p =
    let h = late t g.low g.end g.high e p in
    (h.0, and_from _ _ h.1.above h.1.below, h.2)

-- a guard that holds a clock is not empty
lies_some : (g : Guard) (x : Clock) → Lies g x → empty g ≡ false
lies_some g x l = inside_some g.low g.end g.high x (lies_inside g x l)

-- the test of emptiness says whether a clock lies in the guard
pub empty_right : (g : Guard) → empty g ≡ true → Empty g
empty_right g e x l = both_ways _ (lies_some g x l) e

pub some_right : (g : Guard) → empty g ≡ false → Empty g → ⊥
some_right g e n = let h = late_lies 0 g e (passes_start g.low g.end g.high e) in n h.0 h.1

-- the test of the timeout says whether a clock past it lies in the guard, unless the guard is empty
pub past_right : (h : State) (g : Guard) → empty g ≡ false → past_timeout h g ≡ true → Past h g
past_right Stay g e p = both_ways _ refl p
past_right (Hold t u) g e p = late_lies t g e p

pub past_found : (h : State) (g : Guard) → Past h g → past_timeout h g ≡ true
past_found Stay g p = absurd p
past_found (Hold t u) g p = inside_past t g.high p.0 p.2 (lies_inside g p.0 p.1).below

pub past_some : (h : State) (g : Guard) → Past h g → empty g ≡ false
past_some Stay g p = absurd p
past_some (Hold t u) g p = lies_some g p.0 p.1

-- a clock of x q-ths lies to day n as its ticks lie to 2n
module _ (q x n : ℕ) (l : 1 ≤ q) where
  days_below : q * n ≤ x → n ≤ x / q
  days_below a =
      ⊎_elim
      (λ (less : x / q < n).
      let m : x / q + 1 ≤ n = omega arith in
      let b = mul-le-mul_left q m in
      let c = mul-add q (x / q) 1 in
      let e = mul-one q in
      let r = mod-lt x {m = q} (omega arith) in
      absurd (omega (arith, div-add-mod x q)))
      (λ more. more)
      (cases_lt (x / q) n)

  ticks_from : q * n ≤ x → 2 * n ≤ ticks q x
  ticks_from a = let b = days_below a in omega arith

  ticks_before : x < q * n → ticks q x < 2 * n
  ticks_before a =
      let b : x / q < n = lt_of_mul-lt-mul_left q (omega (arith, div-add-mod x q)) in
      ⊎_elim (λ e. omega (arith, odd_none (x % q) e)) (λ ne. omega (arith, odd_some (x % q) ne)) (cases_eq (x % q) 0)

  ticks_until : x ≤ q * n → ticks q x ≤ 2 * n
  ticks_until a =
      ⊎_elim
      (λ e. let b : x / q ≤ n = le_of_mul-le-mul_left {k = q} (omega (arith, div-add-mod x q)) (omega arith) in omega (arith, odd_none (x % q) e))
      (λ ne. let b : x / q < n = lt_of_mul-lt-mul_left q (omega (arith, div-add-mod x q)) in omega (arith, odd_some (x % q) ne))
      (cases_eq (x % q) 0)

  ticks_after : q * n < x → 2 * n < ticks q x
  ticks_after a =
      let b = days_below (omega arith) in
      ⊎_elim
      (λ (e : x / q ≡ n).
      let c : q * (x / q) ≡ q * n = ap (λ k. q * k) e in
      let some : x % q ≡ 0 → ⊥ = λ z. omega (arith, div-add-mod x q) in
      omega (arith, odd_some (x % q) some))
      (λ ne. omega arith)
      (cases_eq (x / q) n)

  low_shut : leb (q * n) x ≡ leb (2 * n) (ticks q x)
  low_shut =
      ⊎_elim
      (λ less. lt-leb (q * n) x less ∙ sym (lt-leb (2 * n) (ticks q x) (ticks_before less)))
      (λ more. le-leb (q * n) x more ∙ sym (le-leb (2 * n) (ticks q x) (ticks_from more)))
      (cases_lt x (q * n))

  low_open : ltb (q * n) x ≡ ltb (2 * n) (ticks q x)
  low_open =
      ⊎_elim
      (λ less. lt-ltb (q * n) x less ∙ sym (lt-ltb (2 * n) (ticks q x) (ticks_after less)))
      (λ more. le-ltb (q * n) x more ∙ sym (le-ltb (2 * n) (ticks q x) (ticks_until more)))
      (cases_lt (q * n) x)

  high_shut : leb x (q * n) ≡ leb (ticks q x) (2 * n)
  high_shut =
      ⊎_elim
      (λ less. lt-leb x (q * n) less ∙ sym (lt-leb (ticks q x) (2 * n) (ticks_after less)))
      (λ more. le-leb x (q * n) more ∙ sym (le-leb (ticks q x) (2 * n) (ticks_until more)))
      (cases_lt (q * n) x)

  high_open : ltb x (q * n) ≡ ltb (ticks q x) (2 * n)
  high_open =
      ⊎_elim
      (λ less. lt-ltb x (q * n) less ∙ sym (lt-ltb (ticks q x) (2 * n) (ticks_before less)))
      (λ more. le-ltb x (q * n) more ∙ sym (le-ltb (ticks q x) (2 * n) (ticks_from more)))
      (cases_lt x (q * n))

above_ticks : (q n : ℕ) (e : End) (x : ℕ) → 1 ≤ q → above_low q n e x ≡ above_low half_days n e (ticks q x)
above_ticks q n Shut x l = low_shut q x n l
above_ticks q n Open x l = low_open q x n l

below_ticks : (q : ℕ) (h : High) (x : ℕ) → 1 ≤ q → below_high q h x ≡ below_high half_days h (ticks q x)
below_ticks q (At n Shut) x l = high_shut q x n l
below_ticks q (At n Open) x l = high_open q x n l
below_ticks q Inf x l = refl

-- a guard contains a clock just where it contains as many half days as the clock has ticks
pub contains_ticks : (q : ℕ) (g : Guard) (x : ℕ) → 1 ≤ q → contains q g x ≡ contains half_days g (ticks q x)
contains_ticks q g x l = let a = above_ticks q g.low g.end x l in let b = below_ticks q g.high x l in cc

-- the low end lies at most at c days: all that is later is above it
above_later : (n c : ℕ) (e : End) (r : ℕ) → n ≤ c → 2 * c + 1 ≤ r → above_low half_days n e r ≡ true
above_later n c Shut r l m = le-leb _ _ (omega arith)
above_later n c Open r l m = lt-ltb _ _ (omega arith)

-- the high end, if finite, lies at most at c days: what holds a later clock has no high end
below_later : (h : High) (c r : ℕ) → high_day h ≤ c → below_high half_days h (2 * c + 1) ≡ true → below_high half_days h r ≡ true
below_later (At n Shut) c r l b = absurd (omega (arith, leb-true _ _ b))
below_later (At n Open) c r l b = absurd (omega (arith, ltb-true _ _ b))
below_later Inf c r l b = refl

contains_later : (g : Guard) (c r : ℕ) → last_end g ≤ c → 2 * c + 1 ≤ r → contains half_days g (2 * c + 1) ≡ true → contains half_days g r ≡ true
contains_later g c r l m e =
    let b = and_parts (above_low half_days g.low g.end (2 * c + 1)) (below_high half_days g.high (2 * c + 1)) e in
    and_from _ _ (above_later g.low c g.end r (omega arith) m) (below_later g.high c r (omega arith) b.1)

-- every clock of a stretch lies in a guard that contains the stretch as a clock
stretch_lies : (h : State) (c : ℕ) (g : Guard) (r : ℕ) (x : Clock) → last_end g ≤ c → contains half_days g r ≡ true → stretch_by h c x ≡ r → contains half_days g (ticks x.a_day x.parts) ≡ true
stretch_lies Stay c g r x l e s =
    ⊎_elim
    (λ (less : ticks x.a_day x.parts < 2 * c + 1).
    let t : r ≡ ticks x.a_day x.parts = omega arith in
    subst (λ k. contains half_days g k ≡ true) t e)
    (λ (more : 2 * c + 1 ≤ ticks x.a_day x.parts).
    let t : r ≡ 2 * c + 1 = omega arith in
    contains_later g c (ticks x.a_day x.parts) l more (subst (λ k. contains half_days g k ≡ true) t e))
    (cases_lt (ticks x.a_day x.parts) (2 * c + 1))
stretch_lies (Hold t u) c g r x l e s = subst (λ k. contains half_days g k ≡ true) (sym s) e

-- the clock of r half days is in the stretch r
stretch_halves : (h : State) (c r : ℕ) → r < stretch_count h c → stretch_by h c (halves r) ≡ r
stretch_halves Stay c r l = omega (arith, ticks_halves r)
stretch_halves (Hold t u) c r l = ticks_halves r

module _ (d : Draft) where
  -- a row contains a stretch of its state just where its guard contains the stretch as a clock
  pub contains_right : (k r : ℕ) → k < d.rows.count → contains half_days (row_at d k).guard r ≡ true → Contains d (row_at d k).state (row_at d k).guard r
  contains_right k r l e x s =
      let w = row_end d (row_at d k).state d.rows.count k l refl in
      contains_ticks x.a_day (row_at d k).guard x.parts x.some ∙ stretch_lies (state_at d (row_at d k).state) _ (row_at d k).guard r x w e s

  pub contains_found : (s : ℕ) (g : Guard) (r : ℕ) → r < stretches d s → Contains d s g r → contains half_days g r ≡ true
  contains_found s g r l a = a (halves r) (stretch_halves (state_at d s) _ r l)
