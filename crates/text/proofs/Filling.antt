-- A loop that reads one thing after another into an array.
use Rattle.std.proofs.Common.{◌≡◌, ℕ, suc, ◌+◌, ◌-◌, ◌<◌, ◌≤◌, ◌≢◌, List, [], ◌++◌, length, get_or, take, drop, set, replicate, IsErrAnd, IfOk, Ok, Err, Result, sym, refl, ap, ◌∙◌, subst, ⊎_elim, arith, length-set, take-append-drop, length-take}
use native.Mathlib.Nat.{sub-zero}
use lib.ListN.{length-replicate}
use Rattle.std.proofs.Math.ListN.{get_or-append}
use Rattle.std.proofs.Math.Seq.{take-append_seam}
use Rattle.std.proofs.lemmas.List.{take_more_set, drop-set-lt, drop-drop, drop-replicate, get_or-set_same, get_or-set_other}
use Rattle.std.proofs.lemmas.Bool.{cases_eq}
use Rattle.text.specs.declared.fault.TextFault.{TextFault}
use Rattle.text.specs.declared.lexer.Lexer.{Lexer}
use Rattle.text.specs.Grammar.{many}
use Rattle.text.specs.Lexer.{whole, left, Refuses, fault_at}
use Rattle.text.specs.Read.{Reads, shown, Filled}
use Rattle.text.specs.Token.{got, no, Reader}

module _ {A : Type 0} (d : Reader A) (n i : ℕ) (h : i < n) where
  -- a turn of a loop that reads n things
  many_more : (xs : List A) (x : A) (bs rest : List ℕ) → i < length xs → d bs ≡ got x rest → many d (n - i) (take i xs) bs ≡ many d (n - (i + 1)) (take (i + 1) (set xs i x)) rest
  many_more xs x bs rest lt e =
      let left : n - i ≡ suc (n - (i + 1)) = omega arith in
      rw (left, take_more_set xs i x lt, e)

  many_fails : (ys : List A) (bs : List ℕ) (f : ℕ → TextFault) (from : List ℕ) → d bs ≡ no f from → many d (n - i) ys bs ≡ no f from
  many_fails ys bs f from e = let left : n - i ≡ suc (n - (i + 1)) = omega arith in rw (left, e)

many_all : {A : Type 0} (d : Reader A) (n i : ℕ) (ys : List A) (bs : List ℕ) → n ≤ i → many d (n - i) ys bs ≡ got ys bs
many_all d n i ys bs h = let none : n - i ≡ 0 = omega arith in rw none

pub err_shown : {A B : Type 0} (g : A → B) (r : Result A TextFault) (f : TextFault) → IsErrAnd r (λ y. y ≡ f) → IsErrAnd (shown g r) (λ y. y ≡ f)
err_shown g (Ok a) f e = e
err_shown g (Err y) f e = e

pub err_made : {A : Type 0} (P : A → Type 0) (r : Result A TextFault) (f : TextFault) → IsErrAnd r (λ y. y ≡ f) → IfOk r P
err_made P (Ok a) f e = absurd e
err_made P (Err y) f e = tt

-- a loop that is to read n things, of which P holds, into the array xs of size places has read i
pub record Filling {A : Type 0} (d : Reader A) (size : ℕ) (e : A) (P : A → Type 0) (n i : ℕ) (xs : List A) (l m : Lexer) : Type 0 where
  pub on_from : many d (n - i) (take i xs) (left m) ≡ many d n [] (left l)
  pub same : m.text ≡ l.text
  pub within : m.at ≤ length (whole l)
  pub sized : length xs ≡ size
  pub room : n ≤ size
  pub rest : drop i xs ≡ replicate (size - i) e
  pub each : (k : ℕ) → k < i → P (get_or xs k e)

pub filling_none : {A : Type 0} (d : Reader A) (size : ℕ) (e : A) (P : A → Type 0) (n : ℕ) (l : Lexer) → l.at ≤ length (whole l) → n ≤ size → Filling d size e P n 0 (replicate size e) l l
filling_none d size e P n l h room = record {
  on_from = rw sub-zero;
  same = refl;
  within = h;
  sized = length-replicate size e;
  room = room;
  rest = drop-replicate 0 size e;
  each = λ k lt. absurd (omega arith);
}

module _ {A : Type 0} {d : Reader A} {size : ℕ} {e : A} {P : A → Type 0} {n i : ℕ} {xs : List A} {l m : Lexer} (had : Filling d size e P n i xs l m) where
  pub filling_more : {m' : Lexer} (x : A) → i < n → P x → Reads d m m' (Ok x) → Filling d size e P n (i + 1) (set xs i x) l m'
  filling_more {m'} x h p r =
      let inside : i < length xs = omega (arith, had.room, had.sized) in
      let before : i < i + 1 = omega arith in
      let fewer : size - i - 1 ≡ size - (i + 1) = omega arith in
      record {
        on_from = sym (many_more d n i h xs x (left m) (left m') inside r.says.0) ∙ had.on_from;
        same = r.same ∙ had.same;
        within = subst (λ t. m'.at ≤ length t.now) had.same r.says.1;
        sized = length-set xs i x ∙ had.sized;
        room = had.room;
        rest =
            drop-set-lt (i + 1) xs i x before
            ∙ sym (drop-drop 1 i xs)
            ∙ ap (drop 1) had.rest
            ∙ drop-replicate 1 (size - i) e
            ∙ ap (λ j. replicate j e) fewer;
        each = λ k lt.
            ⊎_elim {C = P (get_or (set xs i x) k e)}
            (λ (is : k ≡ i). subst (λ j. P (get_or (set xs i x) j e)) (sym is) (subst P (sym (get_or-set_same xs i x e inside)) p))
            (λ (ne : k ≢ i). subst P (sym (get_or-set_other xs i k x e ne)) (had.each k (omega (arith, ne))))
            (cases_eq k i);
      }

  pub filling_stops : {m' : Lexer} (f : TextFault) (r : Result (List A) TextFault) → i < n → Reads d m m' (Err f) → IsErrAnd r (λ y. y ≡ f) → Reads (many d n []) l m' r
  filling_stops f (Ok b) h t is = absurd is
  filling_stops f (Err y) h t is = rw is (record {
    same = t.same ∙ had.same;
    says = subst (λ x. Refuses x.now f (many d n [] (left l))) had.same (sym had.on_from ∙ many_fails d n i h _ (left m) (fault_at f) _ t.says.0, t.says.1);
  })

  pub filling_all : n ≤ i → i ≤ n → Reads (many d n []) l m (Ok (take n xs))
  filling_all h k =
      let is : i ≡ n = omega arith in
      record { same = had.same; says = (sym had.on_from ∙ many_all d n i (take i xs) (left m) h ∙ ap (λ j. got (take j xs) (left m)) is, had.within) }

  pub filling_filled : n ≤ i → i ≤ n → Filled size e P n xs
  filling_filled h k =
      let is : i ≡ n = omega arith in
      let some : length (take n xs) ≡ n = length-take n xs ∙ omega (arith, had.room, had.sized) in
      record {
        rest =
            sym (take-append-drop n xs)
            ∙ ap (λ j. take n xs ++ drop j xs) (sym is)
            ∙ ap (λ ys. take n xs ++ ys) had.rest
            ∙ ap (λ j. take n xs ++ replicate (size - j) e) (is ∙ sym some);
        each = λ j lt. had.each j (omega arith);
      }

-- the things read in a longer array of such values, of which the places read into are the first
module _ {A : Type 0} {d : Reader A} {e : A} {P : A → Type 0} {n i : ℕ} {xs : List A} {l m : Lexer} (had : Filling d n e P n i xs l m) (h : length xs ≤ i) where
  front : (ys : List A) → take n (xs ++ ys) ≡ xs
  front ys = ap (λ k. take k (xs ++ ys)) (sym had.sized) ∙ take-append_seam xs ys

  pub filling_front : (size r : ℕ) → r ≡ n → Filled size e P n (xs ++ drop r (replicate size e))
  filling_front size r is =
      let ys = drop r (replicate size e) in
      let left : size - r ≡ size - length xs = omega (arith, had.sized) in
      record {
        rest =
            ap (λ zs. xs ++ zs) (drop-replicate r size e)
            ∙ ap (λ k. xs ++ replicate k e) left
            ∙ ap (λ zs. zs ++ replicate (size - length zs) e) (sym (front ys));
        each = λ k lt. subst P (sym (get_or-append xs ys e k (omega (arith, had.sized)))) (had.each k (omega (arith, had.sized)));
      }
