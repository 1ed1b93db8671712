-- The parts of states, guards, rows and drafts, and that the grammar reads each from exactly its parts.
use Rattle.std.proofs.Common.{◌≡◌, ℕ, ◌+◌, ◌<◌, ◌≤◌, Bool, true, false, cond, ◌&&◌, eqb, ltb, leb, ◌⊎◌, List, [], ◌∷◌, ◌++◌, Some, None, Ok, Err, codes, Option, Result, sym, refl, ap, ◌∙◌, subst, inl, inr, arith}
use Rattle.std.proofs.lemmas.Slice.Eq.{bytes_eq-Decides}
use Rattle.std.proofs.lemmas.Bool.{and_from, and_parts, le-leb, lt-ltb, leb-true, ltb-true, eqb-true, eq-eqb, cond-true}
use Rattle.text.specs.declared.draft.End.{End}
use Rattle.text.specs.declared.draft.End.TheVariants.{Shut, Open}
use Rattle.text.specs.declared.draft.Guard.{Guard}
use Rattle.text.specs.declared.draft.High.{High}
use Rattle.text.specs.declared.draft.High.TheVariants.{At, Inf}
use Rattle.text.specs.declared.draft.Row.{Row}
use Rattle.text.specs.declared.draft.State.{State}
use Rattle.text.specs.declared.draft.State.TheVariants.{Stay, Hold}
use Rattle.text.specs.declared.fault.TextFault.{TextFault}
use Rattle.text.specs.declared.fault.TextFault.TheVariants.{Unexpected, OutOfRange}
use Rattle.text.specs.Draft.{timeout_of, target_of, day_of, StateRanged, GuardRanged, RowRanged}
use Rattle.text.specs.declared.mark.Side.{Side}
use Rattle.text.specs.declared.mark.Side.TheVariants.{Low, High as HighSide}
use Rattle.text.specs.Grammar.{◌>>=◌, done, due, as_number, is_word, as_word, as_holds, as_high, or_unexpected, opens, closes, ends, only, as_mark, number_in, section, hold, state, closed, guarded, row}
use Rattle.text.specs.Limits.{max_days}
use Rattle.text.specs.Token.{Part, word, number, mark, end}
use Rattle.text.specs.Write.{opener, closer, mark_of}
use Rattle.text.proofs.Lexing.{real}
use Rattle.text.proofs.Readers.{Spelt, spelt_due, spelt_done, spelt_then, spelt_as}

abbrev pub head_parts : List ℕ → ℕ → List Part
head_parts w n = word w ∷ number n ∷ []

abbrev pub state_parts : State → List Part
state_parts Stay = word (codes "stay") ∷ []
state_parts (Hold t u) = word (codes "hold") ∷ number t ∷ number u ∷ []

abbrev pub high_parts : High → List Part
high_parts (At n e) = number n ∷ mark (closer e) ∷ []
high_parts Inf = word (codes "inf") ∷ mark 41 ∷ []

abbrev pub guard_parts : Guard → List Part
guard_parts g = mark (opener g.end) ∷ number g.low ∷ mark 44 ∷ high_parts g.high

abbrev pub row_parts : Row → List Part
row_parts r = number r.state ∷ number r.input ∷ (guard_parts r.guard ++ (number r.output ∷ number r.next ∷ []))

abbrev pub Range : ℕ → ℕ → ℕ → Type 0
Range low limit n = (low ≤ n) × (n < limit)

if_ok : {A E : Type 0} (t : Bool) (x y : A) (e : E) → cond t (Ok x) (Err e) ≡ Ok y → (t ≡ true) × (x ≡ y)
if_ok true x y e h = (refl, cc)
if_ok false x y e h = cc

if_err : {A E : Type 0} (t : Bool) (x : A) (e f : E) → cond t (Ok x) (Err e) ≡ Err f → f ≡ e
if_err true x e f h = cc
if_err false x e f h = cc

-- what takes no number refuses every part as unexpected
none_misses : {A : Type 0} (f : Part → Result A (ℕ → TextFault)) (p : A → Part) (Fits : A → Type 0) → ((q : Part) (e : ℕ → TextFault) → f q ≡ Err e → e ≡ Unexpected) → ((a : A) (m : ℕ) → p a ≡ number m → ⊥) → (q : Part) (e : ℕ → TextFault) → f q ≡ Err e
    → ((e ≡ OutOfRange) × ((n : ℕ) × (q ≡ number n)) × ((m : ℕ) × (a : A) × Fits a × (p a ≡ number m)))
    ⊎ ((e ≡ Unexpected) × ((n m : ℕ) (a : A) → q ≡ number n → Fits a → p a ≡ number m → ⊥))
none_misses f p Fits unexpected never q e h = inr (unexpected q e h, λ n m a is r z. never a m z)

-- numbers

number_only : (low limit : ℕ) (q : Part) (n : ℕ) → as_number low limit q ≡ Ok n → (q ≡ number n) × Range low limit n
number_only low limit (word w) n e = cc
number_only low limit (number m) n e =
    let t = if_ok _ m n OutOfRange e in
    let p = and_parts (leb low m) (ltb m limit) t.0 in
    (ap number t.1, subst (Range low limit) t.1 (leb-true low m p.0, ltb-true m limit p.1))
number_only low limit (mark c) n e = cc
number_only low limit end n e = cc

number_misses : (low limit : ℕ) → low < limit → (q : Part) (e : ℕ → TextFault) → as_number low limit q ≡ Err e
    → ((e ≡ OutOfRange) × ((n : ℕ) × (q ≡ number n)) × ((m : ℕ) × (a : ℕ) × Range low limit a × (number a ≡ number m)))
    ⊎ ((e ≡ Unexpected) × ((n m a : ℕ) → q ≡ number n → Range low limit a → number a ≡ number m → ⊥))
number_misses low limit some (word w) e h = inr (cc, λ n m a is r z. cc)
number_misses low limit some (number n) e h = inl (if_err (leb low n && ltb n limit) n OutOfRange e h, (n, refl), (low, low, (omega arith, some), refl))
number_misses low limit some (mark c) e h = inr (cc, λ n m a is r z. cc)
number_misses low limit some end e h = inr (cc, λ n m a is r z. cc)

pub spelt_number : (low limit : ℕ) → low < limit → Spelt (number_in low limit) (λ n. number n ∷ []) (Range low limit)
spelt_number low limit some = spelt_due (as_number low limit) number (Range low limit) (record {
  one = λ n. refl;
  takes = λ n h. cond-true _ (Ok n) _ (and_from _ _ (le-leb low n h.0) (lt-ltb n limit h.1));
  only = number_only low limit;
  some = low;
  some_fits = (omega arith, some);
  misses = number_misses low limit some;
})

-- words

is_word_only : (w : List ℕ) (q : Part) → is_word w q ≡ true → q ≡ word w
is_word_only w (word v) e = ap word ((bytes_eq-Decides v w).0 e)
is_word_only w (number n) e = cc
is_word_only w (mark c) e = cc
is_word_only w end e = cc

spelt_word : (w : List ℕ) → Spelt (due (as_word w)) (λ u. word w ∷ []) (λ u. Unit {0})
spelt_word w = spelt_due (as_word w) (λ u. word w) (λ u. Unit {0}) (record {
  one = λ u. refl;
  takes = λ u h. cond-true _ (Ok tt) _ ((bytes_eq-Decides w w).1 refl);
  only = λ q u e. (is_word_only w q (if_ok _ tt u Unexpected e).0, tt);
  some = tt;
  some_fits = tt;
  misses = none_misses (as_word w) (λ u. word w) (λ u. Unit {0}) (λ q e h. if_err (is_word w q) tt Unexpected e h) (λ u m e. cc);
})

-- the head of a section
pub spelt_section : (w : List ℕ) (limit : ℕ) → 1 < limit → Spelt (section w limit) (head_parts w) (λ n. Unit {0} × Range 1 limit n)
spelt_section w limit some =
    spelt_then (due (as_word w)) (λ u. number_in 1 limit) (λ u. word w ∷ []) (λ u. Unit {0}) (λ u n. number n ∷ []) (λ u n. Range 1 limit n) (λ n. tt)
    (λ u n p q. refl) (spelt_word w) (λ u. spelt_number 1 limit some)

-- states

abbrev holds_word : Bool → Part
holds_word true = word (codes "hold")
holds_word false = word (codes "stay")

holds_only : (q : Part) (s t b : Bool) → is_word (codes "stay") q ≡ s → is_word (codes "hold") q ≡ t → ◌≡◌ {A = Result Bool (ℕ → TextFault)} (cond s (Ok false) (cond t (Ok true) (Err Unexpected))) (Ok b) → q ≡ holds_word b
holds_only q true t true x y e = cc
holds_only q true t false x y e = is_word_only (codes "stay") q x
holds_only q false true true x y e = is_word_only (codes "hold") q y
holds_only q false true false x y e = cc
holds_only q false false b x y e = cc

holds_err : (s t : Bool) (e : ℕ → TextFault) → ◌≡◌ {A = Result Bool (ℕ → TextFault)} (cond s (Ok false) (cond t (Ok true) (Err Unexpected))) (Err e) → e ≡ Unexpected
holds_err true t e h = cc
holds_err false true e h = cc
holds_err false false e h = cc

holds_never : (b : Bool) (m : ℕ) → holds_word b ≡ number m → ⊥
holds_never true m e = cc
holds_never false m e = cc

holds_real : (b : Bool) → real (holds_word b) ≡ true
holds_real true = refl
holds_real false = refl

holds_taken : (b : Bool) → as_holds (holds_word b) ≡ Ok b
holds_taken true = refl
holds_taken false = refl

spelt_holds : Spelt (due as_holds) (λ b. holds_word b ∷ []) (λ b. Unit {0})
spelt_holds = spelt_due as_holds holds_word (λ b. Unit {0}) (record {
  one = holds_real;
  takes = λ b h. holds_taken b;
  only = λ q b e. (holds_only q _ _ b refl refl e, tt);
  some = false;
  some_fits = tt;
  misses = none_misses as_holds holds_word (λ b. Unit {0}) (λ q e h. holds_err (is_word (codes "stay") q) (is_word (codes "hold") q) e h) holds_never;
})

spelt_hold : (n : ℕ) → 1 ≤ n → Spelt (hold n) (λ s. number (timeout_of s) ∷ number (target_of s) ∷ []) (λ s. Range 1 (max_days + 1) (timeout_of s) × (Range 0 n (target_of s) × (s ≡ Hold (timeout_of s) (target_of s))))
spelt_hold n some =
    spelt_then (number_in 1 (max_days + 1)) (λ t. number_in 0 n >>= (λ u. done (Hold t u))) (λ t. number t ∷ []) (Range 1 (max_days + 1)) (λ t s. number (target_of s) ∷ []) (λ t s. Range 0 n (target_of s) × (s ≡ Hold t (target_of s))) timeout_of
    (λ t s p q. ap timeout_of q.1)
    (spelt_number 1 (max_days + 1) (omega arith))
    (λ t. spelt_then (number_in 0 n) (λ u. done (Hold t u)) (λ u. number u ∷ []) (Range 0 n) (λ u s. []) (λ u s. s ≡ Hold t u) target_of (λ u s p q. ap target_of q) (spelt_number 0 n some) (λ u. spelt_done (Hold t u)))

abbrev is_hold : State → Bool
is_hold Stay = false
is_hold (Hold t u) = true

abbrev hold_parts : Bool → State → List Part
hold_parts true s = number (timeout_of s) ∷ number (target_of s) ∷ []
hold_parts false s = []

abbrev HoldFits : ℕ → Bool → State → Type 0
HoldFits n true s = Range 1 (max_days + 1) (timeout_of s) × (Range 0 n (target_of s) × (s ≡ Hold (timeout_of s) (target_of s)))
HoldFits n false s = s ≡ Stay

spelt_kind : (n : ℕ) → 1 ≤ n → (b : Bool) → Spelt (cond b (hold n) (done Stay)) (hold_parts b) (HoldFits n b)
spelt_kind n some true = spelt_hold n some
spelt_kind n some false = spelt_done Stay

kind_found : (n : ℕ) (b : Bool) (s : State) → HoldFits n b s → is_hold s ≡ b
kind_found n true s h = ap is_hold h.1.1
kind_found n false s h = ap is_hold h

abbrev StateFits : ℕ → State → Type 0
StateFits n s = Unit {0} × HoldFits n (is_hold s) s

state_fits : (n : ℕ) (s : State) → 1 ≤ n → StateRanged n s → StateFits n s × (state_parts s ≡ (holds_word (is_hold s) ∷ []) ++ hold_parts (is_hold s) s)
state_fits n Stay some r = ((tt, refl), refl)
state_fits n (Hold t u) some r = ((tt, ((r.0, omega (arith, r.1)), ((omega arith, r.2), refl))), refl)

state_ranged : (n : ℕ) (s : State) → 1 ≤ n → StateFits n s → StateRanged n s × (state_parts s ≡ (holds_word (is_hold s) ∷ []) ++ hold_parts (is_hold s) s)
state_ranged n Stay some f = ((omega arith, omega arith, omega arith), refl)
state_ranged n (Hold t u) some f = ((f.1.0.0, omega (arith, f.1.0.1), f.1.1.0.1), refl)

pub spelt_state : (n : ℕ) → 1 ≤ n → Spelt (state n) state_parts (StateRanged n)
spelt_state n some =
    spelt_as (λ s r. state_fits n s some r) (λ s f. state_ranged n s some f)
    (spelt_then (due as_holds) (λ b. cond b (hold n) (done Stay)) (λ b. holds_word b ∷ []) (λ b. Unit {0}) hold_parts (HoldFits n) is_hold (λ b s p q. kind_found n b s q) spelt_holds (spelt_kind n some))

-- marks

or_found : {A : Type 0} (o : Option A) (a : A) → or_unexpected o ≡ Ok a → o ≡ Some a
or_found (Some b) a e = cc
or_found None a e = cc

or_err : {A : Type 0} (o : Option A) (e : ℕ → TextFault) → or_unexpected o ≡ Err e → e ≡ Unexpected
or_err (Some a) e h = cc
or_err None e h = cc

mark_only : {A : Type 0} (f : ℕ → Option A) (g : A → ℕ) → ((c : ℕ) (a : A) → f c ≡ Some a → c ≡ g a) → (q : Part) (a : A) → as_mark f q ≡ Ok a → (q ≡ mark (g a)) × Unit {0}
mark_only f g found (word w) a e = cc
mark_only f g found (number n) a e = cc
mark_only f g found (mark c) a e = (ap mark (found c a (or_found (f c) a e)), tt)
mark_only f g found end a e = cc

mark_err : {A : Type 0} (f : ℕ → Option A) (q : Part) (e : ℕ → TextFault) → as_mark f q ≡ Err e → e ≡ Unexpected
mark_err f (word w) e h = cc
mark_err f (number n) e h = cc
mark_err f (mark c) e h = or_err (f c) e h
mark_err f end e h = cc

spelt_mark : {A : Type 0} (f : ℕ → Option A) (g : A → ℕ) → A → ((a : A) → f (g a) ≡ Some a) → ((c : ℕ) (a : A) → f c ≡ Some a → c ≡ g a) → Spelt (due (as_mark f)) (λ a. mark (g a) ∷ []) (λ a. Unit {0})
spelt_mark f g some takes found = spelt_due (as_mark f) (λ a. mark (g a)) (λ a. Unit {0}) (record {
  one = λ a. refl;
  takes = λ a h. ap or_unexpected (takes a);
  only = mark_only f g found;
  some = some;
  some_fits = tt;
  misses = none_misses (as_mark f) (λ a. mark (g a)) (λ a. Unit {0}) (mark_err f) (λ a m e. cc);
})

-- one of two marks
either_found : {A : Type 0} (c m n : ℕ) (s t : Bool) (x y a : A) → eqb c m ≡ s → eqb c n ≡ t → cond s (Some x) (cond t (Some y) None) ≡ Some a → ((c ≡ m) × (a ≡ x)) ⊎ ((c ≡ n) × (a ≡ y))
either_found c m n true t x y a p q e = inl (eqb-true c m p, cc)
either_found c m n false true x y a p q e = inr (eqb-true c n q, cc)
either_found c m n false false x y a p q e = cc

mark_ends : (s : Side) (e : End) → ends s (mark_of s e) ≡ Some e
mark_ends Low Shut = refl
mark_ends Low Open = refl
mark_ends HighSide Shut = refl
mark_ends HighSide Open = refl

by_end : (s : Side) (c : ℕ) (e : End) → ((c ≡ mark_of s Shut) × (e ≡ Shut)) ⊎ ((c ≡ mark_of s Open) × (e ≡ Open)) → c ≡ mark_of s e
by_end s c e (inl p) = p.0 ∙ ap (mark_of s) (sym p.1)
by_end s c e (inr p) = p.0 ∙ ap (mark_of s) (sym p.1)

ends_only : (s : Side) (c : ℕ) (e : End) → ends s c ≡ Some e → c ≡ mark_of s e
ends_only Low c e h = by_end Low c e (either_found c 91 40 _ _ Shut Open e refl refl h)
ends_only HighSide c e h = by_end HighSide c e (either_found c 93 41 _ _ Shut Open e refl refl h)

only_found : (c m : ℕ) (t : Bool) (u : Unit {0}) → eqb c m ≡ t → cond t (Some tt) None ≡ Some u → c ≡ m
only_found c m true u p e = eqb-true c m p
only_found c m false u p e = cc

spelt_only : (m : ℕ) → Spelt (due (as_mark (only m))) (λ u. mark m ∷ []) (λ u. Unit {0})
spelt_only m = spelt_mark (only m) (λ u. m) tt (λ u. cond-true _ (Some tt) None (eq-eqb m m refl)) (λ c u e. only_found c m _ u refl e)

spelt_end : (s : Side) → Spelt (due (as_mark (ends s))) (λ e. mark (mark_of s e) ∷ []) (λ e. Unit {0})
spelt_end s = spelt_mark (ends s) (mark_of s) Shut (mark_ends s) (ends_only s)

-- guards

abbrev day_part : Option ℕ → Part
day_part (Some n) = number n
day_part None = word (codes "inf")

abbrev DayFits : Option ℕ → Type 0
DayFits o = day_of o ≤ max_days

day_real : (o : Option ℕ) → real (day_part o) ≡ true
day_real (Some n) = refl
day_real None = refl

day_taken : (o : Option ℕ) → DayFits o → as_high (day_part o) ≡ Ok o
day_taken (Some n) h = cond-true _ (Ok (Some n)) _ (le-leb n max_days h)
day_taken None h = refl

day_only : (q : Part) (o : Option ℕ) → as_high q ≡ Ok o → (q ≡ day_part o) × DayFits o
day_only (word w) o e =
    let t = if_ok _ None o Unexpected e in
    (ap word ((bytes_eq-Decides w (codes "inf")).0 t.0) ∙ ap day_part t.1, subst DayFits t.1 (omega arith))
day_only (number n) o e =
    let t = if_ok (leb n max_days) (Some n) o OutOfRange e in
    (ap day_part t.1, subst DayFits t.1 (leb-true n max_days t.0))
day_only (mark c) o e = cc
day_only end o e = cc

day_misses : (q : Part) (e : ℕ → TextFault) → as_high q ≡ Err e
    → ((e ≡ OutOfRange) × ((n : ℕ) × (q ≡ number n)) × ((m : ℕ) × (o : Option ℕ) × DayFits o × (day_part o ≡ number m)))
    ⊎ ((e ≡ Unexpected) × ((n m : ℕ) (o : Option ℕ) → q ≡ number n → DayFits o → day_part o ≡ number m → ⊥))
day_misses (word w) e h = inr (if_err _ None Unexpected e h, λ n m o is r z. cc)
day_misses (number n) e h = inl (if_err (leb n max_days) (Some n) OutOfRange e h, (n, refl), (0, Some 0, omega arith, refl))
day_misses (mark c) e h = inr (cc, λ n m o is r z. cc)
day_misses end e h = inr (cc, λ n m o is r z. cc)

spelt_day : Spelt (due as_high) (λ o. day_part o ∷ []) DayFits
spelt_day = spelt_due as_high day_part DayFits (record { one = day_real; takes = day_taken; only = day_only; some = None; some_fits = omega arith; misses = day_misses })

abbrev day_in : High → Option ℕ
day_in (At n e) = Some n
day_in Inf = None

abbrev end_in : High → End
end_in (At n e) = e
end_in Inf = Open

abbrev closing_parts : Option ℕ → High → List Part
closing_parts (Some n) h = mark (closer (end_in h)) ∷ []
closing_parts None h = mark 41 ∷ []

abbrev ClosingFits : Option ℕ → High → Type 0
ClosingFits (Some n) h = Unit {0} × (h ≡ At n (end_in h))
ClosingFits None h = Unit {0} × (h ≡ Inf)

spelt_closed : (o : Option ℕ) → Spelt (closed o) (closing_parts o) (ClosingFits o)
spelt_closed (Some n) = spelt_then (due (as_mark closes)) (λ e. done (At n e)) (λ e. mark (closer e) ∷ []) (λ e. Unit {0}) (λ e h. []) (λ e h. h ≡ At n e) end_in (λ e h p q. ap end_in q) (spelt_end HighSide) (λ e. spelt_done (At n e))
spelt_closed None = spelt_then (due (as_mark (only 41))) (λ u. done Inf) (λ u. mark 41 ∷ []) (λ u. Unit {0}) (λ u h. []) (λ u h. h ≡ Inf) (λ h. tt) (λ u h p q. refl) (spelt_only 41) (λ u. spelt_done Inf)

closing_day : (o : Option ℕ) (h : High) → ClosingFits o h → day_in h ≡ o
closing_day (Some n) h f = ap day_in f.1
closing_day None h f = ap day_in f.1

-- the high end, in a guard whose low end is known
abbrev HighFits : End → ℕ → Guard → Type 0
HighFits e low g = DayFits (day_in g.high) × (ClosingFits (day_in g.high) g.high × (g ≡ record { low = low; end = e; high = g.high }))

abbrev high_spelt : Guard → List Part
high_spelt g = (day_part (day_in g.high) ∷ []) ++ (closing_parts (day_in g.high) g.high ++ [])

spelt_high : (e : End) (low : ℕ) → Spelt (due as_high >>= (λ o. closed o >>= (λ h. done (record { low = low; end = e; high = h })))) high_spelt (HighFits e low)
spelt_high e low =
    spelt_then (due as_high) (λ o. closed o >>= (λ h. done (record { low = low; end = e; high = h }))) (λ o. day_part o ∷ []) DayFits (λ o g. closing_parts o g.high ++ []) (λ o g. ClosingFits o g.high × (g ≡ record { low = low; end = e; high = g.high })) (λ g. day_in g.high)
    (λ o g p q. closing_day o g.high q.0)
    spelt_day
    (λ o. spelt_then (closed o) (λ h. done (record { low = low; end = e; high = h })) (closing_parts o) (ClosingFits o) (λ h g. []) (λ h g. g ≡ record { low = low; end = e; high = h }) (λ g. g.high) (λ h g p q. ap (λ (x : Guard). x.high) q) (spelt_closed o) (λ h. spelt_done (record { low = low; end = e; high = h })))

abbrev GuardFits : Guard → Type 0
GuardFits g = Unit {0} × (Range 0 (max_days + 1) g.low × (Unit {0} × HighFits g.end g.low g))

guard_spelt : Spelt guarded (λ g. (mark (opener g.end) ∷ []) ++ ((number g.low ∷ []) ++ ((mark 44 ∷ []) ++ high_spelt g))) GuardFits
guard_spelt =
    spelt_then (due (as_mark opens)) _ (λ e. mark (opener e) ∷ []) (λ e. Unit {0}) (λ e g. (number g.low ∷ []) ++ ((mark 44 ∷ []) ++ high_spelt g)) (λ e g. Range 0 (max_days + 1) g.low × (Unit {0} × HighFits e g.low g)) (λ g. g.end)
    (λ e g p q. ap (λ (x : Guard). x.end) q.1.1.1.1)
    (spelt_end Low)
    (λ e. spelt_then (number_in 0 (max_days + 1)) _ (λ n. number n ∷ []) (Range 0 (max_days + 1)) (λ low g. (mark 44 ∷ []) ++ high_spelt g) (λ low g. Unit {0} × HighFits e low g) (λ g. g.low)
    (λ low g p q. ap (λ (x : Guard). x.low) q.1.1.1)
    (spelt_number 0 (max_days + 1) (omega arith))
    (λ low. spelt_then (due (as_mark (only 44))) _ (λ u. mark 44 ∷ []) (λ u. Unit {0}) (λ u g. high_spelt g) (λ u g. HighFits e low g) (λ g. tt) (λ u g p q. refl) (spelt_only 44) (λ u. spelt_high e low)))

high_fits : (e : End) (low : ℕ) (h : High) → GuardRanged (record { low = low; end = e; high = h }) → GuardFits (record { low = low; end = e; high = h })
high_fits e low (At n f) r = (tt, ((omega arith, omega (arith, r.0)), (tt, (r.1, ((tt, refl), refl)))))
high_fits e low Inf r = (tt, ((omega arith, omega (arith, r.0)), (tt, (r.1, ((tt, refl), refl)))))

high_ranged : (e : End) (low : ℕ) (h : High) → GuardFits (record { low = low; end = e; high = h }) → GuardRanged (record { low = low; end = e; high = h })
high_ranged e low (At n f) g = (omega (arith, g.1.0.1), g.1.1.1.0)
high_ranged e low Inf g = (omega (arith, g.1.0.1), g.1.1.1.0)

high_same : (h : High) → high_parts h ≡ (day_part (day_in h) ∷ []) ++ (closing_parts (day_in h) h ++ [])
high_same (At n e) = refl
high_same Inf = refl

pub spelt_guard : Spelt guarded guard_parts GuardRanged
spelt_guard =
    let same : (g : Guard) → guard_parts g ≡ (mark (opener g.end) ∷ []) ++ ((number g.low ∷ []) ++ ((mark 44 ∷ []) ++ high_spelt g)) = λ g. ap (λ ps. mark (opener g.end) ∷ number g.low ∷ mark 44 ∷ ps) (high_same g.high) in
    spelt_as (λ g r. (high_fits g.end g.low g.high r, same g)) (λ g f. (high_ranged g.end g.low g.high f, same g)) guard_spelt

-- rows

module _ (inputs outputs states : ℕ) (some_inputs : 1 ≤ inputs) (some_outputs : 1 ≤ outputs) (some_states : 1 ≤ states) where
  row_spelt : Spelt (row inputs outputs states) (λ r. (number r.state ∷ []) ++ ((number r.input ∷ []) ++ (guard_parts r.guard ++ ((number r.output ∷ []) ++ ((number r.next ∷ []) ++ []))))) (λ r. Range 0 states r.state × (Range 0 inputs r.input × (GuardRanged r.guard × (Range 0 outputs r.output × (Range 0 states r.next × (r ≡ r))))))
  row_spelt =
      spelt_then (number_in 0 states) _ (λ n. number n ∷ []) (Range 0 states) (λ s r. (number r.input ∷ []) ++ (guard_parts r.guard ++ ((number r.output ∷ []) ++ ((number r.next ∷ []) ++ [])))) (λ s r. Range 0 inputs r.input × (GuardRanged r.guard × (Range 0 outputs r.output × (Range 0 states r.next × (r ≡ record { state = s; input = r.input; guard = r.guard; output = r.output; next = r.next }))))) (λ r. r.state)
      (λ s r p q. ap (λ (x : Row). x.state) q.1.1.1.1)
      (spelt_number 0 states some_states)
      (λ s. spelt_then (number_in 0 inputs) _ (λ n. number n ∷ []) (Range 0 inputs) (λ i r. guard_parts r.guard ++ ((number r.output ∷ []) ++ ((number r.next ∷ []) ++ []))) (λ i r. GuardRanged r.guard × (Range 0 outputs r.output × (Range 0 states r.next × (r ≡ record { state = s; input = i; guard = r.guard; output = r.output; next = r.next })))) (λ r. r.input)
      (λ i r p q. ap (λ (x : Row). x.input) q.1.1.1)
      (spelt_number 0 inputs some_inputs)
      (λ i. spelt_then guarded _ guard_parts GuardRanged (λ g r. (number r.output ∷ []) ++ ((number r.next ∷ []) ++ [])) (λ g r. Range 0 outputs r.output × (Range 0 states r.next × (r ≡ record { state = s; input = i; guard = g; output = r.output; next = r.next }))) (λ r. r.guard)
      (λ g r p q. ap (λ (x : Row). x.guard) q.1.1)
      spelt_guard
      (λ g. spelt_then (number_in 0 outputs) _ (λ n. number n ∷ []) (Range 0 outputs) (λ o r. (number r.next ∷ []) ++ []) (λ o r. Range 0 states r.next × (r ≡ record { state = s; input = i; guard = g; output = o; next = r.next })) (λ r. r.output)
      (λ o r p q. ap (λ (x : Row). x.output) q.1)
      (spelt_number 0 outputs some_outputs)
      (λ o. spelt_then (number_in 0 states) _ (λ n. number n ∷ []) (Range 0 states) (λ t r. []) (λ t r. r ≡ record { state = s; input = i; guard = g; output = o; next = t }) (λ r. r.next)
      (λ t r p q. ap (λ (x : Row). x.next) q)
      (spelt_number 0 states some_states)
      (λ t. spelt_done (record { state = s; input = i; guard = g; output = o; next = t }))))))

  pub spelt_row : Spelt (row inputs outputs states) row_parts (RowRanged inputs outputs states)
  spelt_row =
      spelt_as
      (λ r h. (((omega arith, h.0.0), ((omega arith, h.0.1), (h.1, ((omega arith, h.0.2), ((omega arith, h.0.3), refl))))), refl))
      (λ r f. (((f.0.1, f.1.0.1, f.1.1.1.0.1, f.1.1.1.1.0.1), f.1.1.0), refl))
      row_spelt
