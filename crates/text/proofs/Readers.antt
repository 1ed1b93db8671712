-- Each reader of the grammar takes exactly the parts of what it reads, and refuses at the first part with which nothing that it reads goes on.
use Rattle.std.proofs.Common.{◌≡◌, ℕ, zero, suc, true, ◌⊎◌, List, [], ◌∷◌, ◌++◌, length, Ok, Err, Result, sym, refl, ap, ◌∙◌, subst, inl, inr, ⊎_elim, append_assoc, append-nil, arith}
use Rattle.std.proofs.lemmas.List.{append_cancel_left}
use Rattle.std.specs.List.{flat_map, AllByRecursion}
use Rattle.text.specs.declared.fault.TextFault.{TextFault}
use Rattle.text.specs.declared.fault.TextFault.TheVariants.{Malformed, Unexpected, OutOfRange}
use Rattle.text.specs.Grammar.{on, ◌>>=◌, done, taken, due, many}
use Rattle.text.specs.Token.{Part, number, Got, got, no, Reader, skip, part}
use Rattle.text.proofs.Lexing.{real, part_refused}
use Rattle.text.proofs.Follows.{Follows, follows_append, follows_split}

-- why the part that was found is refused, where Goes holds of the parts that could stand in its place

-- a number, and other numbers could
pub record OutOf (Goes : Part → Type 0) (g : Got Part) : Type 0 where
  pub found : ℕ
  pub rest : List ℕ
  pub is : g ≡ got (number found) rest
  pub never : Goes (number found) → ⊥
  pub other : ℕ
  pub goes : Goes (number other)

-- a part, or the end, and where it is a number, no number could
pub record Other (Goes : Part → Type 0) (g : Got Part) : Type 0 where
  pub found : Part
  pub rest : List ℕ
  pub is : g ≡ got found rest
  pub never : Goes found → ⊥
  pub no_number : (n m : ℕ) → found ≡ number n → Goes (number m) → ⊥

-- no part at all
pub record Broken (g : Got Part) : Type 0 where
  pub from : List ℕ
  pub is : g ≡ no Malformed from

abbrev pub Why : (Part → Type 0) → Got Part → (ℕ → TextFault) → Type 0
Why Goes g e = ((e ≡ Malformed) × Broken g) ⊎ (((e ≡ OutOfRange) × OutOf Goes g) ⊎ ((e ≡ Unexpected) × Other Goes g))

pub why_as : {Goes Also : Part → Type 0} {g : Got Part} {e : ℕ → TextFault} → ((p : Part) → Goes p → Also p) → ((p : Part) → Also p → Goes p) → Why Goes g e → Why Also g e
why_as to from (inl w) = inl w
why_as to from (inr (inl w)) = inr (inl (w.0, record { found = w.1.found; rest = w.1.rest; is = w.1.is; never = λ a. w.1.never (from _ a); other = w.1.other; goes = to _ w.1.goes }))
why_as to from (inr (inr w)) = inr (inr (w.0, record { found = w.1.found; rest = w.1.rest; is = w.1.is; never = λ a. w.1.never (from _ a); no_number = λ n m is a. w.1.no_number n m is (from _ a) }))

-- behind the parts ps the parts of some thing that fits go on with p
pub record GoesOn {A : Type 0} (parts : A → List Part) (Fits : A → Type 0) (ps : List Part) (p : Part) : Type 0 where
  pub thing : A
  pub fits : Fits thing
  pub later : List Part
  pub is : parts thing ≡ ps ++ (p ∷ later)

-- the bytes are refused with e, at the place where `from` is left
pub record Refusal {A : Type 0} (parts : A → List Part) (Fits : A → Type 0) (bs : List ℕ) (e : ℕ → TextFault) (from : List ℕ) : Type 0 where
  pub before : List Part
  pub rest : List ℕ
  pub follow : Follows before bs rest
  pub place : from ≡ skip rest
  pub due : Part
  pub goes : GoesOn parts Fits before due
  pub why : Why (GoesOn parts Fits before) (part (skip rest)) e

-- the reader reads a thing exactly where the thing fits and its parts follow; no two things begin with the parts of one; and what it refuses it refuses at the first part with which no thing goes on
pub record Spelt {A : Type 0} (d : Reader A) (parts : A → List Part) (Fits : A → Type 0) : Type 0 where
  pub forth : (a : A) (bs rest : List ℕ) → Fits a → Follows (parts a) bs rest → d bs ≡ got a rest
  pub back : (a : A) (bs rest : List ℕ) → d bs ≡ got a rest → Fits a × Follows (parts a) bs rest
  pub some : A
  pub some_fits : Fits some
  pub free : (a b : A) → Fits a → Fits b → (later : List Part) → parts b ≡ parts a ++ later → b ≡ a
  pub fails : (bs : List ℕ) (e : ℕ → TextFault) (from : List ℕ) → d bs ≡ no e from → Refusal parts Fits bs e from

-- one of two beginnings of a list is a beginning of the other
pub beginnings : {X : Type 0} (xs ys us vs : List X) → xs ++ us ≡ ys ++ vs → ((zs : List X) × (xs ≡ ys ++ zs)) ⊎ ((zs : List X) × (ys ≡ xs ++ zs))
beginnings [] ys us vs e = inr (ys, refl)
beginnings (x ∷ xs) [] us vs e = inl (x ∷ xs, refl)
beginnings {X} (x ∷ xs) (y ∷ ys) us vs e =
    let same : x ≡ y = cc in
    let later : xs ++ us ≡ ys ++ vs = cc in
    ⊎_elim
    (λ (h : (zs : List X) × (xs ≡ ys ++ zs)). inl (h.0, λ i. same i ∷ h.1 i))
    (λ (h : (zs : List X) × (ys ≡ xs ++ zs)). inr (h.0, λ i. sym same i ∷ h.1 i))
    (beginnings xs ys us vs later)

-- one part

taken_got : {A : Type 0} (r : Result A (ℕ → TextFault)) (from rest more : List ℕ) (a : A) → taken r from rest ≡ got a more → (r ≡ Ok a) × (rest ≡ more)
taken_got (Ok b) from rest more a e = (cc, cc)
taken_got (Err f) from rest more a e = cc

due_got : {A : Type 0} (f : Part → Result A (ℕ → TextFault)) (g : Got Part) (from rest : List ℕ) (a : A) → on g (λ p. taken (f p) from) ≡ got a rest → (p : Part) × (g ≡ got p rest) × (f p ≡ Ok a)
due_got f (got p more) from rest a e = let t = taken_got (f p) from more rest a e in (p, ap (got p) t.1, t.0)
due_got f (no h more) from rest a e = cc

-- what one part is taken for: it is refused as out of range only where it is a number and another number would do, else as unexpected, and then no number would do
pub record Takes {A : Type 0} (f : Part → Result A (ℕ → TextFault)) (p : A → Part) (Fits : A → Type 0) : Type 0 where
  pub one : (a : A) → real (p a) ≡ true
  pub takes : (a : A) → Fits a → f (p a) ≡ Ok a
  pub only : (q : Part) (a : A) → f q ≡ Ok a → (q ≡ p a) × Fits a
  pub some : A
  pub some_fits : Fits some
  pub misses : (q : Part) (e : ℕ → TextFault) → f q ≡ Err e
      → ((e ≡ OutOfRange) × ((n : ℕ) × (q ≡ number n)) × ((m : ℕ) × (a : A) × Fits a × (p a ≡ number m)))
      ⊎ ((e ≡ Unexpected) × ((n m : ℕ) (a : A) → q ≡ number n → Fits a → p a ≡ number m → ⊥))

module _ {A : Type 0} (f : Part → Result A (ℕ → TextFault)) (p : A → Part) (Fits : A → Type 0) (t : Takes f p Fits) where
  abbrev one_part : A → List Part
  one_part a = p a ∷ []

  goes_taken : (q : Part) → GoesOn one_part Fits [] q → (a : A) × Fits a × (p a ≡ q)
  goes_taken q g = let same : p g.thing ≡ q = cc in (g.thing, g.fits, same)

  refused_never : (q : Part) (e : ℕ → TextFault) → f q ≡ Err e → GoesOn one_part Fits [] q → ⊥
  refused_never q e h g =
      let a = goes_taken q g in
      let both : Ok a.0 ≡ Err e = sym (t.takes a.0 a.1) ∙ ap f a.2 ∙ h in
      cc

  some_goes : (a : A) → Fits a → GoesOn one_part Fits [] (p a)
  some_goes a h = record { thing = a; fits = h; later = []; is = refl }

  refused_why : (q : Part) (rest : List ℕ) (g : Got Part) (e : ℕ → TextFault) → g ≡ got q rest → f q ≡ Err e → Why (GoesOn one_part Fits []) g e
  refused_why q rest g e is h =
      ⊎_elim
      (λ m. let n = m.1 in let a = m.2 in
      inr (inl (
        m.0,
        record {
          found = n.0;
          rest = rest;
          is = is ∙ ap (λ x. got x rest) n.1;
          never = λ go. refused_never q e h (subst (GoesOn one_part Fits []) (sym n.1) go);
          other = a.0;
          goes = subst (GoesOn one_part Fits []) a.3 (some_goes a.1 a.2);
        },
      )))
      (λ m.
      inr (inr (
        m.0,
        record {
          found = q;
          rest = rest;
          is = is;
          never = refused_never q e h;
          no_number = λ n k same go. let a = goes_taken (number k) go in m.1 n k a.0 same a.1 a.2;
        },
      )))
      (t.misses q e h)

  taken_no : (r : Result A (ℕ → TextFault)) (here rest from : List ℕ) (e : ℕ → TextFault) → taken r here rest ≡ no e from → (r ≡ Err e) × (from ≡ here)
  taken_no (Ok a) here rest from e h = cc
  taken_no (Err x) here rest from e h = (cc, cc)

  due_fails : (bs : List ℕ) (e : ℕ → TextFault) (from : List ℕ) (g : Got Part) → part (skip bs) ≡ g → on g (λ q. taken (f q) (skip bs)) ≡ no e from → Refusal one_part Fits bs e from
  due_fails bs e from (got q rest) is h =
      let n = taken_no (f q) (skip bs) rest from e h in
      record { before = []; rest = bs; follow = refl; place = n.1; due = p t.some; goes = some_goes t.some t.some_fits; why = refused_why q rest (part (skip bs)) e is n.0 }
  due_fails bs e from (no x more) is h =
      let broken = part_refused (skip bs) more x is in
      let same : x ≡ e = cc in
      let left : more ≡ from = cc in
      record {
        before = [];
        rest = bs;
        follow = refl;
        place = sym left ∙ broken.1;
        due = p t.some;
        goes = some_goes t.some t.some_fits;
        why = inl (sym same ∙ broken.0, record { from = more; is = is ∙ ap (λ y. no y more) broken.0 });
      }

  pub spelt_due : Spelt (due f) one_part Fits
  spelt_due = record {
    forth = λ a bs rest h g. rw (g.1, t.takes a h) (ap (got a) g.3);
    back = λ a bs rest e.
        let d = due_got f (part (skip bs)) (skip bs) rest a e in
        let o = t.only d.0 a d.2 in
        (o.1, (rest, d.1 ∙ ap (λ q. got q rest) o.0, t.one a, refl));
    some = t.some;
    some_fits = t.some_fits;
    free = λ a b h k later e.
        let same : p b ≡ p a = cc in
        let both : ◌≡◌ {A = Result A (ℕ → TextFault)} (Ok b) (Ok a) = sym (t.takes b k) ∙ ap f same ∙ t.takes a h in
        cc;
    fails = λ bs e from h. due_fails bs e from (part (skip bs)) refl h;
  }

-- nothing
pub spelt_done : {A : Type 0} (v : A) → Spelt (done v) (λ a. []) (λ a. a ≡ v)
spelt_done v = record {
  forth = λ a bs rest h g. λ i. got (sym h i) (g i);
  back = λ a bs rest e. (cc, cc);
  some = v;
  some_fits = refl;
  free = λ a b h k later e. k ∙ sym h;
  fails = λ bs e from h. cc;
}

-- the same parts and the same fit under other names
module _ {A : Type 0} {d : Reader A} {f g : A → List Part} {P Q : A → Type 0} (to : (a : A) → Q a → P a × (g a ≡ f a)) (from : (a : A) → P a → Q a × (g a ≡ f a)) (s : Spelt d f P) where
  goes_to : (ps : List Part) (p : Part) → GoesOn f P ps p → GoesOn g Q ps p
  goes_to ps p go = let q = from go.thing go.fits in record { thing = go.thing; fits = q.0; later = go.later; is = q.1 ∙ go.is }

  goes_from : (ps : List Part) (p : Part) → GoesOn g Q ps p → GoesOn f P ps p
  goes_from ps p go = let q = to go.thing go.fits in record { thing = go.thing; fits = q.0; later = go.later; is = sym q.1 ∙ go.is }

  pub spelt_as : Spelt d g Q
  spelt_as = record {
    forth = λ a bs rest q h. let p = to a q in s.forth a bs rest p.0 (subst (λ (ps : List Part). Follows ps bs rest) p.1 h);
    back = λ a bs rest e. let b = s.back a bs rest e in let q = from a b.0 in (q.0, subst (λ (ps : List Part). Follows ps bs rest) (sym q.1) b.1);
    some = s.some;
    some_fits = (from s.some s.some_fits).0;
    free = λ a b h k later e.
        let x = to a h in
        let y = to b k in
        s.free a b x.0 y.0 later (sym y.1 ∙ e ∙ ap (λ (ps : List Part). ps ++ later) x.1);
    fails = λ bs e left h.
        let r = s.fails bs e left h in
        record {
          before = r.before;
          rest = r.rest;
          follow = r.follow;
          place = r.place;
          due = r.due;
          goes = goes_to r.before r.due r.goes;
          why = why_as (goes_to r.before) (goes_from r.before) r.why;
        };
  }

-- one thing, and then another in which it is found again

on_got : {A B : Type 0} (g : Got A) (k : A → Reader B) (b : B) (rest : List ℕ) → on g k ≡ got b rest → (a : A) × (more : List ℕ) × (g ≡ got a more) × (k a more ≡ got b rest)
on_got (got a more) k b rest e = (a, more, refl, e)
on_got (no f from) k b rest e = cc

pub never_both : {A : Type 0} (g : Got A) (a : A) (rest : List ℕ) (e : ℕ → TextFault) (from : List ℕ) → g ≡ got a rest → g ≡ no e from → ⊥
never_both g a rest e from h k = cc

module _ {A B : Type 0} (d : Reader A) (k : A → Reader B) (first : A → List Part) (P : A → Type 0) (second : A → B → List Part) (Q : A → B → Type 0) (again : B → A) (found : (a : A) (b : B) → P a → Q a b → again b ≡ a) (s : Spelt d first P) where
  abbrev both_parts : B → List Part
  both_parts b = first (again b) ++ second (again b) b

  abbrev BothFit : B → Type 0
  BothFit b = P (again b) × Q (again b) b

  both_fit : (a : A) (b : B) → P a → Q a b → BothFit b × (both_parts b ≡ first a ++ second a b)
  both_fit a b h q =
      let same = found a b h q in
      (subst (λ (x : A). P x × Q x b) (sym same) (h, q), ap (λ (x : A). first x ++ second x b) same)

  -- things whose parts begin alike have the same first thing
  same_first : (a b : A) (us vs : List Part) → P a → P b → first a ++ us ≡ first b ++ vs → a ≡ b
  same_first a b us vs h l e =
      ⊎_elim
      (λ (m : (zs : List Part) × (first a ≡ first b ++ zs)). s.free b a l h m.0 m.1)
      (λ (m : (zs : List Part) × (first b ≡ first a ++ zs)). sym (s.free a b h l m.0 m.1))
      (beginnings (first a) (first b) us vs e)

  module _ (t : (a : A) → P a → Spelt (k a) (second a) (Q a)) where
    -- refused in the first thing

    goes_first : (ps : List Part) (p : Part) → GoesOn first P ps p → GoesOn both_parts BothFit ps p
    goes_first ps p go =
        let a = go.thing in
        let rest = t a go.fits in
        let both = both_fit a rest.some go.fits rest.some_fits in
        record {
          thing = rest.some;
          fits = both.0;
          later = go.later ++ second a rest.some;
          is = both.1 ∙ ap (λ ps. ps ++ second a rest.some) go.is ∙ append_assoc ps (p ∷ go.later) (second a rest.some);
        }

    front_goes : (a : A) (ps us later : List Part) (p : Part) → P a → (zs : List Part) → first a ≡ ps ++ zs → first a ++ us ≡ ps ++ (p ∷ later) → (first a ≡ ps → ⊥) → GoesOn first P ps p
    front_goes a ps us later p h [] is all more = absurd (more (is ∙ append-nil ps))
    front_goes a ps us later p h (z ∷ zs) is all more =
        let cut : z ∷ (zs ++ us) ≡ p ∷ later = append_cancel_left ps (z ∷ (zs ++ us)) (p ∷ later) (sym (append_assoc ps (z ∷ zs) us) ∙ ap (λ xs. xs ++ us) (sym is) ∙ all) in
        let same : z ≡ p = cc in
        record { thing = a; fits = h; later = zs; is = is ∙ ap (λ x. ps ++ (x ∷ zs)) same }

    first_goes : (bs : List ℕ) (e : ℕ → TextFault) (from : List ℕ) (ps : List Part) (rest : List ℕ) → d bs ≡ no e from → Follows ps bs rest → (p : Part) → GoesOn both_parts BothFit ps p → GoesOn first P ps p
    first_goes bs e from ps rest h follow p go =
        let a = again go.thing in
        let never : (zs : List Part) → ps ≡ first a ++ zs → ⊥ = λ zs is.
        let cut = follows_split (first a) zs bs rest (subst (λ (xs : List Part). Follows xs bs rest) is follow) in
        never_both (d bs) a cut.0 e from (s.forth a bs cut.0 go.fits.0 cut.1) h in
        ⊎_elim
        (λ (m : (zs : List Part) × (first a ≡ ps ++ zs)). front_goes a ps (second a go.thing) go.later p go.fits.0 m.0 m.1 go.is (λ is. never [] (sym is ∙ sym (append-nil (first a)))))
        (λ (m : (zs : List Part) × (ps ≡ first a ++ zs)). absurd (never m.0 m.1))
        (beginnings (first a) ps (second a go.thing) (p ∷ go.later) go.is)

    first_fails : (bs : List ℕ) (e : ℕ → TextFault) (from : List ℕ) → d bs ≡ no e from → Refusal both_parts BothFit bs e from
    first_fails bs e from h =
        let r = s.fails bs e from h in
        record {
          before = r.before;
          rest = r.rest;
          follow = r.follow;
          place = r.place;
          due = r.due;
          goes = goes_first r.before r.due r.goes;
          why = why_as (goes_first r.before) (first_goes bs e from r.before r.rest h r.follow) r.why;
        }

    -- refused behind the first thing

    goes_second : (a : A) (h : P a) (ps : List Part) (p : Part) → GoesOn (second a) (Q a) ps p → GoesOn both_parts BothFit (first a ++ ps) p
    goes_second a h ps p go =
        let both = both_fit a go.thing h go.fits in
        record { thing = go.thing; fits = both.0; later = go.later; is = both.1 ∙ ap (λ xs. first a ++ xs) go.is ∙ sym (append_assoc (first a) ps (p ∷ go.later)) }

    second_goes : (a : A) (h : P a) (ps : List Part) (p : Part) → GoesOn both_parts BothFit (first a ++ ps) p → GoesOn (second a) (Q a) ps p
    second_goes a h ps p go =
        let b = go.thing in
        let all : first (again b) ++ second (again b) b ≡ first a ++ (ps ++ (p ∷ go.later)) = go.is ∙ append_assoc (first a) ps (p ∷ go.later) in
        let same : again b ≡ a = same_first (again b) a (second (again b) b) (ps ++ (p ∷ go.later)) go.fits.0 h all in
        let moved : first a ++ second a b ≡ first a ++ (ps ++ (p ∷ go.later)) = sym (ap (λ (x : A). first x ++ second x b) same) ∙ all in
        record { thing = b; fits = subst (λ (x : A). Q x b) same go.fits.1; later = go.later; is = append_cancel_left (first a) (second a b) (ps ++ (p ∷ go.later)) moved }

    second_fails : (bs more : List ℕ) (a : A) (e : ℕ → TextFault) (from : List ℕ) → d bs ≡ got a more → k a more ≡ no e from → Refusal both_parts BothFit bs e from
    second_fails bs more a e from g h =
        let x = s.back a bs more g in
        let r = (t a x.0).fails more e from h in
        record {
          before = first a ++ r.before;
          rest = r.rest;
          follow = follows_append (first a) r.before bs more r.rest x.1 r.follow;
          place = r.place;
          due = r.due;
          goes = goes_second a x.0 r.before r.due r.goes;
          why = why_as (goes_second a x.0 r.before) (second_goes a x.0 r.before) r.why;
        }

    both_fails : (bs : List ℕ) (e : ℕ → TextFault) (from : List ℕ) (g : Got A) → d bs ≡ g → on g k ≡ no e from → Refusal both_parts BothFit bs e from
    both_fails bs e from (got a more) is h = second_fails bs more a e from is h
    both_fails bs e from (no x more) is h = let same : x ≡ e = cc in let left : more ≡ from = cc in first_fails bs e from (is ∙ (λ i. no (same i) (left i)))

    both_free : (b c : B) → BothFit b → BothFit c → (later : List Part) → both_parts c ≡ both_parts b ++ later → c ≡ b
    both_free b c h l later e =
        let all : first (again c) ++ second (again c) c ≡ first (again b) ++ (second (again b) b ++ later) = e ∙ append_assoc (first (again b)) (second (again b) b) later in
        let same : again c ≡ again b = same_first (again c) (again b) (second (again c) c) (second (again b) b ++ later) l.0 h.0 all in
        let moved : first (again b) ++ second (again b) c ≡ first (again b) ++ (second (again b) b ++ later) = sym (ap (λ (x : A). first x ++ second x c) same) ∙ all in
        (t (again b) h.0).free b c h.1 (subst (λ (x : A). Q x c) same l.1) later (append_cancel_left (first (again b)) (second (again b) c) (second (again b) b ++ later) moved)

    -- what comes second may lean on what holds of the first
    pub spelt_given : Spelt (d >>= k) both_parts BothFit
    spelt_given = record {
      forth = λ b bs rest h f.
          let cut = follows_split (first (again b)) (second (again b) b) bs rest f in
          ap (λ (g : Got A). on g k) (s.forth (again b) bs cut.0 h.0 cut.1) ∙ (t (again b) h.0).forth b cut.0 rest h.1 cut.2;
      back = λ b bs rest e.
          let o = on_got (d bs) k b rest e in
          let x = s.back o.0 bs o.1 o.2 in
          let y = (t o.0 x.0).back b o.1 rest o.3 in
          subst (λ (a : A). (P a × Q a b) × Follows (first a ++ second a b) bs rest) (sym (found o.0 b x.0 y.0))
          ((x.0, y.0), follows_append (first o.0) (second o.0 b) bs o.1 rest x.1 y.1);
      some = (t s.some s.some_fits).some;
      some_fits = (both_fit s.some (t s.some s.some_fits).some s.some_fits (t s.some s.some_fits).some_fits).0;
      free = both_free;
      fails = λ bs e from h. both_fails bs e from (d bs) refl h;
    }

  pub spelt_then : ((a : A) → Spelt (k a) (second a) (Q a)) → Spelt (d >>= k) both_parts BothFit
  spelt_then t = spelt_given (λ a h. t a)

-- a reader that answers the same
pub spelt_same : {A : Type 0} {d c : Reader A} {f : A → List Part} {P : A → Type 0} → ((bs : List ℕ) → c bs ≡ d bs) → Spelt d f P → Spelt c f P
spelt_same same s = record {
  forth = λ a bs rest h g. same bs ∙ s.forth a bs rest h g;
  back = λ a bs rest e. s.back a bs rest (sym (same bs) ∙ e);
  some = s.some;
  some_fits = s.some_fits;
  free = s.free;
  fails = λ bs e from h. s.fails bs e from (sym (same bs) ∙ h);
}

-- so many things, one after another

module _ {A : Type 0} (d : Reader A) where
  -- the first, and then the others
  abbrev each : ℕ → Reader (List A)
  each zero = done []
  each (suc n) = d >>= (λ x. each n >>= (λ xs. done (x ∷ xs)))

  abbrev behind : List A → Got (List A) → Got (List A)
  behind before (got xs rest) = got (before ++ xs) rest
  behind before (no e from) = no e from

  behind_more : (before : List A) (x : A) (g : Got (List A)) → behind (before ++ x ∷ []) g ≡ behind before (on g (λ xs. done (x ∷ xs)))
  behind_more before x (got xs rest) = ap (λ ys. got ys rest) (append_assoc before (x ∷ []) xs)
  behind_more before x (no e from) = refl

  many_next : (n : ℕ) (before : List A) → ((others : List A) (bs : List ℕ) → many d n others bs ≡ behind others (each n bs)) → (g : Got A) → on g (λ x. many d n (before ++ x ∷ [])) ≡ behind before (on g (λ x. each n >>= (λ xs. done (x ∷ xs))))
  many_next n before later (got x more) = later (before ++ x ∷ []) more ∙ behind_more before x (each n more)
  many_next n before later (no e from) = refl

  many_each : (n : ℕ) (before : List A) (bs : List ℕ) → many d n before bs ≡ behind before (each n bs)
  many_each zero before bs = ap (λ ys. got ys bs) (sym (append-nil before))
  many_each (suc n) before bs = many_next n before (many_each n) (d bs)

  nothing_before : (g : Got (List A)) → behind [] g ≡ g
  nothing_before (got xs rest) = refl
  nothing_before (no e from) = refl

abbrev pub Several : {A : Type 0} → (A → Type 0) → ℕ → List A → Type 0
Several P n xs = (length xs ≡ n) × AllByRecursion P xs

module _ {A : Type 0} (d : Reader A) (f : A → List Part) (P : A → Type 0) (s : Spelt d f P) where
  abbrev head : List A → A
  head [] = s.some
  head (x ∷ xs) = x

  abbrev tail : List A → List A
  tail [] = []
  tail (x ∷ xs) = xs

  abbrev HeadFits : ℕ → List A → Type 0
  HeadFits n xs = P (head xs) × (Several P n (tail xs) × (xs ≡ head xs ∷ tail xs))

  several_head : (n : ℕ) (xs : List A) → Several P (suc n) xs → HeadFits n xs × (flat_map f xs ≡ f (head xs) ++ (flat_map f (tail xs) ++ []))
  several_head n [] h = absurd (omega (arith, h.0))
  several_head n (x ∷ xs) h = ((h.1.0, ((omega (arith, h.0), h.1.1), refl)), ap (λ ps. f x ++ ps) (sym (append-nil (flat_map f xs))))

  head_several : (n : ℕ) (xs : List A) → HeadFits n xs → Several P (suc n) xs × (flat_map f xs ≡ f (head xs) ++ (flat_map f (tail xs) ++ []))
  head_several n [] h = let e : [] ≡ s.some ∷ [] = h.1.1 in cc
  head_several n (x ∷ xs) h = ((ap suc h.1.0.0, (h.0, h.1.0.1)), ap (λ ps. f x ++ ps) (sym (append-nil (flat_map f xs))))

  none_several : (xs : List A) → Several P 0 xs → (xs ≡ []) × (flat_map f xs ≡ [])
  none_several [] h = (refl, refl)
  none_several (x ∷ xs) h = absurd (omega (arith, h.0))

  several_none : (xs : List A) → xs ≡ [] → Several P 0 xs × (flat_map f xs ≡ [])
  several_none xs e = subst (λ (ys : List A). Several P 0 ys × (flat_map f ys ≡ [])) (sym e) ((refl, tt), refl)

  spelt_each : (n : ℕ) → Spelt (each d n) (flat_map f) (Several P n)
  spelt_each zero = spelt_as none_several several_none (spelt_done [])
  spelt_each (suc n) =
      spelt_as (several_head n) (head_several n)
      (spelt_then d (λ x. each d n >>= (λ xs. done (x ∷ xs))) f P (λ x ys. flat_map f (tail ys) ++ []) (λ x ys. Several P n (tail ys) × (ys ≡ x ∷ tail ys)) head
      (λ x ys p q. ap head q.1)
      s
      (λ x. spelt_then (each d n) (λ xs. done (x ∷ xs)) (flat_map f) (Several P n) (λ xs ys. []) (λ xs ys. ys ≡ x ∷ xs) tail (λ xs ys p q. ap tail q) (spelt_each n) (λ xs. spelt_done (x ∷ xs))))

  pub spelt_many : (n : ℕ) → Spelt (many d n []) (flat_map f) (Several P n)
  spelt_many n = spelt_same (λ bs. many_each d n [] bs ∙ nothing_before d (each d n bs)) (spelt_each n)
