-- What the lexer takes from bytes is the part that they begin with.
use Rattle.std.proofs.Common.{◌≡◌, ℕ, suc, ◌+◌, ◌-◌, ◌*◌, ◌/◌, ◌%◌, ◌<◌, ◌≤◌, Bool, true, false, cond, eqb, leb, List, [], ◌∷◌, ◌++◌, length, take, drop, Some, None, decimal, Option, sym, refl, ap, ◌∙◌, subst, ⊎_elim, arith, take-append-drop}
use Rattle.std.proofs.lemmas.Fmt.{decimal_digit, decimal_step}
use Rattle.std.proofs.lemmas.List.{take_at, drop_at}
use Rattle.std.proofs.lemmas.Bool.{cond_both, and_parts, and_from, and_left, or_cases, or_from, eqb-true, ne_eqb, eqb-false, leb-true, le-leb, lt-leb, cases_Bool, cases_lt}
use Rattle.text.specs.declared.fault.TextFault.{TextFault}
use Rattle.text.specs.declared.fault.TextFault.TheVariants.{Malformed}
use Rattle.text.specs.declared.token.Kind.{Kind}
use Rattle.text.specs.declared.token.Kind.TheVariants.{Blank, Letter, Digit}
use Rattle.text.specs.Limits.{number_limit}
use Rattle.text.specs.Parts.{All, Other, spelling, Proper, Stops, Next}
use Rattle.text.specs.Token.{is_of, is_mark, run, numeral, numbered, Part, word, number, mark, end, got, no, skip, part}
use Rattle.text.proofs.Tokens.{part_word, part_number, part_mark}

-- runs of a kind

run_is : (k : Kind) (front rest : List ℕ) → All k front → Other k rest → run k (front ++ rest) ≡ length front
run_is k [] [] a o = refl
run_is k [] (b ∷ rest) a o = rw o
run_is k (b ∷ front) rest a o = rw a.0 (ap suc (run_is k front rest a.1 o))

pub run_front : (k : Kind) (bs : List ℕ) → All k (take (run k bs) bs)
run_front k [] = tt
run_front k (b ∷ bs) = cond_both (is_of k b) (suc (run k bs)) 0 (λ n. All k (take n (b ∷ bs))) (λ e. (e, run_front k bs)) (λ e. tt)

pub run_rest : (k : Kind) (bs : List ℕ) → Other k (drop (run k bs) bs)
run_rest k [] = tt
run_rest k (b ∷ bs) = cond_both (is_of k b) (suc (run k bs)) 0 (λ n. Other k (drop n (b ∷ bs))) (λ e. run_rest k bs) (λ e. e)

pub skip_blanks : (blanks rest : List ℕ) → All Blank blanks → Other Blank rest → skip (blanks ++ rest) ≡ rest
skip_blanks blanks rest a o = ap (λ n. drop n (blanks ++ rest)) (run_is Blank blanks rest a o) ∙ drop_at blanks rest (length blanks) refl

-- no byte is of two kinds

letter_no_blank : (b : ℕ) → is_of Letter b ≡ true → is_of Blank b ≡ false
letter_no_blank b e =
    let l : 97 ≤ b = leb-true 97 b (and_parts _ _ e).0 in
    or_from _ _ (ne_eqb b 32 (λ z. omega arith)) (ne_eqb b 10 (λ z. omega arith))

digit_no_blank : (b : ℕ) → is_of Digit b ≡ true → is_of Blank b ≡ false
digit_no_blank b e =
    let l : 48 ≤ b = leb-true 48 b (and_parts _ _ e).0 in
    or_from _ _ (ne_eqb b 32 (λ z. omega arith)) (ne_eqb b 10 (λ z. omega arith))

digit_no_letter : (b : ℕ) → is_of Digit b ≡ true → is_of Letter b ≡ false
digit_no_letter b e = let l : b ≤ 57 = leb-true b 57 (and_parts (leb 48 b) (leb b 57) e).1 in and_left _ _ (lt-leb 97 b (omega arith))

-- what holds of the five marks holds of every mark
by_marks : (P : ℕ → Type 0) → P 91 → P 40 → P 93 → P 41 → P 44 → (b : ℕ) → is_mark b ≡ true → P b
by_marks P p q r s t b e =
    let at : (n : ℕ) → P n → eqb b n ≡ true → P b = λ n x z. subst P (sym (eqb-true b n z)) x in
    ⊎_elim (at 91 p) (λ f. ⊎_elim (at 40 q) (λ g. ⊎_elim (at 93 r) (λ h. ⊎_elim (at 41 s) (at 44 t) (or_cases _ _ h)) (or_cases _ _ g)) (or_cases _ _ f)) (or_cases _ _ e)

-- the digits of a number of a text

digit_byte : (x : ℕ) → x < 10 → is_of Digit (48 + x) ≡ true
digit_byte x h = and_from _ _ (le-leb 48 (48 + x) (omega arith)) (le-leb (48 + x) 57 (omega arith))

byte_digit : (b : ℕ) → is_of Digit b ≡ true → (48 ≤ b) × (b ≤ 57)
byte_digit b e = let p = and_parts _ _ e in (leb-true 48 b p.0, leb-true b 57 p.1)

-- digits that read as the number
record Figures (n : ℕ) (ds : List ℕ) : Type 0 where
  some : 1 ≤ length ds
  digits : All Digit ds
  reads : numeral ds ≡ Some n

one_figure : (n : ℕ) → n < 10 → Figures n ((48 + n) ∷ [])
one_figure n h = record { some = omega arith; digits = (digit_byte n h, tt); reads = ap Some (omega arith) }

two_figures : (n : ℕ) → 10 ≤ n → n < 100 → Figures n ((48 + n / 10) ∷ (48 + n % 10) ∷ [])
two_figures n l h =
    let first : n / 10 < 10 = omega arith in
    let some : 48 + n / 10 ≡ 48 → ⊥ = λ e. omega arith in
    record {
      some = omega arith;
      digits = (digit_byte (n / 10) first, (digit_byte (n % 10) (omega arith), tt));
      reads = rw (ne_eqb (48 + n / 10) 48 some) (ap Some (omega arith));
    }

three_figures : (n : ℕ) → 100 ≤ n → n < 1000 → Figures n ((48 + n / 10 / 10) ∷ (48 + n / 10 % 10) ∷ (48 + n % 10) ∷ [])
three_figures n l h =
    let first : n / 10 / 10 < 10 = omega arith in
    let some : 48 + n / 10 / 10 ≡ 48 → ⊥ = λ e. omega arith in
    record {
      some = omega arith;
      digits = (digit_byte (n / 10 / 10) first, (digit_byte (n / 10 % 10) (omega arith), (digit_byte (n % 10) (omega arith), tt)));
      reads = rw (ne_eqb (48 + n / 10 / 10) 48 some) (ap Some (omega arith));
    }

-- the digits in which a number below the limit is written
decimal_two : (n : ℕ) → 10 ≤ n → n < 100 → decimal n ≡ (48 + n / 10) ∷ (48 + n % 10) ∷ []
decimal_two n l h =
    let first : n / 10 < 10 = omega arith in
    decimal_step n l (omega arith) ∙ ap (λ ds. ds ++ ((48 + n % 10) ∷ [])) (decimal_digit (n / 10) first)

decimal_three : (n : ℕ) → 100 ≤ n → n < 1000 → decimal n ≡ (48 + n / 10 / 10) ∷ (48 + n / 10 % 10) ∷ (48 + n % 10) ∷ []
decimal_three n l h =
    let more : 10 ≤ n / 10 = omega arith in
    let less : n / 10 < 100 = omega arith in
    decimal_step n (omega arith) (omega arith) ∙ ap (λ ds. ds ++ ((48 + n % 10) ∷ [])) (decimal_two (n / 10) more less)

figures : (n : ℕ) → n < number_limit → Figures n (decimal n)
figures n h =
    ⊎_elim
    (λ (small : n < 10). subst (Figures n) (sym (decimal_digit n small)) (one_figure n small))
    (λ (ten : 10 ≤ n). ⊎_elim
    (λ (less : n < 100). subst (Figures n) (sym (decimal_two n ten less)) (two_figures n ten less))
    (λ (hundred : 100 ≤ n). subst (Figures n) (sym (decimal_three n hundred h)) (three_figures n hundred h))
    (cases_lt n 100))
    (cases_lt n 10)

-- digits that read as a number are those in which it is written
numeral_one : (a n : ℕ) → is_of Digit a ≡ true → n ≡ a - 48 → (a ∷ [] ≡ decimal n) × (n < number_limit)
numeral_one a n d e =
    let p = byte_digit a d in
    let small : n < 10 = omega arith in
    let same : a ≡ 48 + n = omega arith in
    (ap (λ x. x ∷ []) same ∙ sym (decimal_digit n small), omega arith)

numeral_two : (a b n : ℕ) → is_of Digit a ≡ true → is_of Digit b ≡ true → (a ≡ 48 → ⊥) → n ≡ (a - 48) * 10 + (b - 48) → (a ∷ b ∷ [] ≡ decimal n) × (n < number_limit)
numeral_two a b n d e some is =
    let p = byte_digit a d in
    let q = byte_digit b e in
    let positive : 49 ≤ a = omega (arith, some) in
    let x : a ≡ 48 + n / 10 = omega arith in
    let y : b ≡ 48 + n % 10 = omega arith in
    ((λ i. x i ∷ y i ∷ []) ∙ sym (decimal_two n (omega arith) (omega arith)), omega arith)

numeral_three : (a b c n : ℕ) → is_of Digit a ≡ true → is_of Digit b ≡ true → is_of Digit c ≡ true → (a ≡ 48 → ⊥) → n ≡ (a - 48) * 100 + (b - 48) * 10 + (c - 48) → (a ∷ b ∷ c ∷ [] ≡ decimal n) × (n < number_limit)
numeral_three a b c n d e f some is =
    let p = byte_digit a d in
    let q = byte_digit b e in
    let r = byte_digit c f in
    let positive : 49 ≤ a = omega (arith, some) in
    let x : a ≡ 48 + n / 10 / 10 = omega arith in
    let y : b ≡ 48 + n / 10 % 10 = omega arith in
    let z : c ≡ 48 + n % 10 = omega arith in
    ((λ i. x i ∷ y i ∷ z i ∷ []) ∙ sym (decimal_three n (omega arith) (omega arith)), omega arith)

unless_some : {X : Type 0} (t : Bool) (x y : X) → cond t None (Some x) ≡ Some y → (t ≡ false) × (y ≡ x)
unless_some true x y e = cc
unless_some false x y e = (refl, cc)

numeral_written : (ds : List ℕ) (n : ℕ) → All Digit ds → numeral ds ≡ Some n → (ds ≡ decimal n) × (n < number_limit)
numeral_written [] n d e = cc
numeral_written (a ∷ []) n d e = numeral_one a n d.0 (cc)
numeral_written (a ∷ b ∷ []) n d e = let u = unless_some _ _ n e in numeral_two a b n d.0 d.1.0 (eqb-false a 48 u.0) u.1
numeral_written (a ∷ b ∷ c ∷ []) n d e = let u = unless_some _ _ n e in numeral_three a b c n d.0 d.1.0 d.1.1.0 (eqb-false a 48 u.0) u.1
numeral_written (a ∷ b ∷ c ∷ f ∷ ds) n d e = cc

-- the lexer finds the part that is spelt

-- bytes that begin with a run of a kind, cut behind it
run_cut : (k : Kind) (front rest : List ℕ) → All k front → Other k rest → (take (run k (front ++ rest)) (front ++ rest) ≡ front) × (drop (run k (front ++ rest)) (front ++ rest) ≡ rest)
run_cut k front rest a o =
    let n = run_is k front rest a o in
    (take_at front rest _ (sym n), drop_at front rest _ (sym n))

word_lexed : (w rest : List ℕ) → 1 ≤ length w → All Letter w → Other Letter rest → part (w ++ rest) ≡ got (word w) rest
word_lexed [] rest some a o = absurd (omega arith)
word_lexed (b ∷ w) rest some a o =
    let cut = run_cut Letter (b ∷ w) rest a o in
    part_word (b ∷ (w ++ rest)) b (w ++ rest) refl (sym a.0) ∙ (λ i. got (word (cut.0 i)) (cut.1 i))

digits_lexed : (ds rest : List ℕ) (n : ℕ) → Figures n ds → Other Digit rest → part (ds ++ rest) ≡ got (number n) rest
digits_lexed [] rest n f o = absurd (omega (arith, f.some))
digits_lexed (b ∷ ds) rest n f o =
    let cut = run_cut Digit (b ∷ ds) rest f.digits o in
    let whole : List ℕ = b ∷ (ds ++ rest) in
    part_number whole b (ds ++ rest) refl (sym (digit_no_letter b f.digits.0)) (sym f.digits.0)
    ∙ (λ i. numbered (numeral (cut.0 i)) whole (cut.1 i))
    ∙ ap (λ o. numbered o whole rest) f.reads

mark_lexed : (c : ℕ) (rest : List ℕ) → is_mark c ≡ true → part (c ∷ rest) ≡ got (mark c) rest
mark_lexed c rest = by_marks (λ c. part (c ∷ rest) ≡ got (mark c) rest) refl refl refl refl refl c

lexed : (p : Part) (rest : List ℕ) → Proper p → Stops p rest → part (spelling p ++ rest) ≡ got p rest
lexed (word w) rest h s = word_lexed w rest h.0 h.1 s
lexed (number n) rest h s = digits_lexed (decimal n) rest n (figures n h) s
lexed (mark c) rest h s = mark_lexed c rest h
lexed end rest h s = absurd h

digits_no_blank : (ds rest : List ℕ) (n : ℕ) → Figures n ds → Other Blank (ds ++ rest)
digits_no_blank [] rest n f = absurd (omega (arith, f.some))
digits_no_blank (b ∷ ds) rest n f = digit_no_blank b f.digits.0

word_no_blank : (w rest : List ℕ) → 1 ≤ length w → All Letter w → Other Blank (w ++ rest)
word_no_blank [] rest some a = absurd (omega arith)
word_no_blank (b ∷ w) rest some a = letter_no_blank b a.0

no_blank : (p : Part) (rest : List ℕ) → Proper p → Other Blank (spelling p ++ rest)
no_blank (word w) rest h = word_no_blank w rest h.0 h.1
no_blank (number n) rest h = digits_no_blank (decimal n) rest n (figures n h)
no_blank (mark c) rest h = by_marks (λ c. is_of Blank c ≡ false) refl refl refl refl refl c h
no_blank end rest h = absurd h

pub next_lexed : (p : Part) (bs rest : List ℕ) → Next p bs rest → part (skip bs) ≡ got p rest
next_lexed p bs rest n =
    ap (λ t. part (skip t)) n.is
    ∙ ap part (skip_blanks n.blanks (spelling p ++ rest) n.blank (no_blank p rest n.proper))
    ∙ lexed p rest n.proper n.stops

-- what the lexer finds is spelt there

-- the bytes are the part and the rest
record Cut (p : Part) (bs rest : List ℕ) : Type 0 where
  proper : Proper p
  stops : Stops p rest
  is : bs ≡ spelling p ++ rest

-- the part is one, and not the end of the text
abbrev pub real : Part → Bool
real (word w) = true
real (number n) = true
real (mark c) = true
real end = false

cut_as : (p q : Part) (bs rest more : List ℕ) → got p rest ≡ got q more → Cut p bs rest → Cut q bs more
cut_as p q bs rest more e c =
    let same : p ≡ q = cc in
    let left : rest ≡ more = cc in
    subst (λ (x : Part). Cut x bs more) same (subst (λ (t : List ℕ). Cut p bs t) left c)

word_cut : (b : ℕ) (bs : List ℕ) → is_of Letter b ≡ true → Cut (word (take (run Letter (b ∷ bs)) (b ∷ bs))) (b ∷ bs) (drop (run Letter (b ∷ bs)) (b ∷ bs))
word_cut b bs l =
    let n : run Letter (b ∷ bs) ≡ suc (run Letter bs) = rw l in
    record {
      proper = (rw n (omega arith), run_front Letter (b ∷ bs));
      stops = run_rest Letter (b ∷ bs);
      is = sym (take-append-drop (run Letter (b ∷ bs)) (b ∷ bs));
    }

number_cut : (bs : List ℕ) (n : ℕ) → numeral (take (run Digit bs) bs) ≡ Some n → Cut (number n) bs (drop (run Digit bs) bs)
number_cut bs n e =
    let w = numeral_written (take (run Digit bs) bs) n (run_front Digit bs) e in
    record {
      proper = w.1;
      stops = run_rest Digit bs;
      is = sym (take-append-drop (run Digit bs) bs) ∙ ap (λ ds. ds ++ drop (run Digit bs) bs) w.0;
    }

numbered_cut : (o : Option ℕ) (p : Part) (bs rest : List ℕ) → numeral (take (run Digit bs) bs) ≡ o → numbered o bs (drop (run Digit bs) bs) ≡ got p rest → Cut p bs rest
numbered_cut (Some n) p bs rest e g = cut_as (number n) p bs (drop (run Digit bs) bs) rest g (number_cut bs n e)
numbered_cut None p bs rest e g = cc

mark_cut : (t : Bool) (b : ℕ) (p : Part) (bs rest : List ℕ) → is_mark b ≡ t → cond t (got (mark b) bs) (no Malformed (b ∷ bs)) ≡ got p rest → Cut p (b ∷ bs) rest
mark_cut true b p bs rest e g = cut_as (mark b) p (b ∷ bs) bs rest g (record { proper = e; stops = tt; is = refl })
mark_cut false b p bs rest e g = cc

part_cut : (p : Part) (bs rest : List ℕ) → part bs ≡ got p rest → real p ≡ true → Cut p bs rest
part_cut p [] rest e r = let same : end ≡ p = cc in let z : false ≡ true = ap real same ∙ r in cc
part_cut p (b ∷ bs) rest e r =
    ⊎_elim
    (λ (l : is_of Letter b ≡ true). cut_as _ p (b ∷ bs) _ rest (sym (part_word (b ∷ bs) b bs refl (sym l)) ∙ e) (word_cut b bs l))
    (λ (l : is_of Letter b ≡ false). ⊎_elim
    (λ (d : is_of Digit b ≡ true). numbered_cut (numeral (take (run Digit (b ∷ bs)) (b ∷ bs))) p (b ∷ bs) rest refl (sym (part_number (b ∷ bs) b bs refl (sym l) (sym d)) ∙ e))
    (λ (d : is_of Digit b ≡ false). mark_cut (is_mark b) b p bs rest refl (sym (part_mark (b ∷ bs) b bs refl (sym l) (sym d)) ∙ e))
    (cases_Bool (is_of Digit b)))
    (cases_Bool (is_of Letter b))

pub lexed_next : (p : Part) (bs rest : List ℕ) → part (skip bs) ≡ got p rest → real p ≡ true → Next p bs rest
lexed_next p bs rest e r =
    let cut = part_cut p (skip bs) rest e r in
    record {
      blanks = take (run Blank bs) bs;
      blank = run_front Blank bs;
      proper = cut.proper;
      stops = cut.stops;
      is = sym (take-append-drop (run Blank bs) bs) ∙ ap (λ t. take (run Blank bs) bs ++ t) cut.is;
    }

-- where the lexer finds no part, the bytes are malformed from there on

numbered_refused : (o : Option ℕ) (bs rest from : List ℕ) (e : ℕ → TextFault) → numbered o bs rest ≡ no e from → (e ≡ Malformed) × (from ≡ bs)
numbered_refused (Some n) bs rest from e h = cc
numbered_refused None bs rest from e h = (cc, cc)

mark_refused : (t : Bool) (b : ℕ) (bs from : List ℕ) (e : ℕ → TextFault) → cond t (got (mark b) bs) (no Malformed (b ∷ bs)) ≡ no e from → (e ≡ Malformed) × (from ≡ b ∷ bs)
mark_refused true b bs from e h = cc
mark_refused false b bs from e h = (cc, cc)

pub part_refused : (bs from : List ℕ) (e : ℕ → TextFault) → part bs ≡ no e from → (e ≡ Malformed) × (from ≡ bs)
part_refused [] from e h = cc
part_refused (b ∷ bs) from e h =
    ⊎_elim
    (λ (l : is_of Letter b ≡ true). let word = part_word (b ∷ bs) b bs refl (sym l) in cc)
    (λ (l : is_of Letter b ≡ false). ⊎_elim
    (λ (d : is_of Digit b ≡ true). numbered_refused (numeral (take (run Digit (b ∷ bs)) (b ∷ bs))) (b ∷ bs) _ from e (sym (part_number (b ∷ bs) b bs refl (sym l) (sym d)) ∙ h))
    (λ (d : is_of Digit b ≡ false). mark_refused (is_mark b) b bs from e (sym (part_mark (b ∷ bs) b bs refl (sym l) (sym d)) ∙ h))
    (cases_Bool (is_of Digit b)))
    (cases_Bool (is_of Letter b))

-- the end is found only where nothing is left

numbered_real : (o : Option ℕ) (bs rest more : List ℕ) (p : Part) → numbered o bs rest ≡ got p more → real p ≡ true
numbered_real (Some n) bs rest more p h = let same : number n ≡ p = cc in ap real (sym same)
numbered_real None bs rest more p h = cc

mark_real : (t : Bool) (b : ℕ) (bs more : List ℕ) (p : Part) → cond t (got (mark b) bs) (no Malformed (b ∷ bs)) ≡ got p more → real p ≡ true
mark_real true b bs more p h = let same : mark b ≡ p = cc in ap real (sym same)
mark_real false b bs more p h = cc

word_real : (w rest more : List ℕ) (p : Part) → got (word w) rest ≡ got p more → real p ≡ true
word_real w rest more p h = let same : word w ≡ p = cc in ap real (sym same)

part_real : (b : ℕ) (bs more : List ℕ) (p : Part) → part (b ∷ bs) ≡ got p more → real p ≡ true
part_real b bs more p h =
    ⊎_elim
    (λ (l : is_of Letter b ≡ true). word_real _ _ more p (sym (part_word (b ∷ bs) b bs refl (sym l)) ∙ h))
    (λ (l : is_of Letter b ≡ false). ⊎_elim
    (λ (d : is_of Digit b ≡ true). numbered_real (numeral (take (run Digit (b ∷ bs)) (b ∷ bs))) (b ∷ bs) _ more p (sym (part_number (b ∷ bs) b bs refl (sym l) (sym d)) ∙ h))
    (λ (d : is_of Digit b ≡ false). mark_real (is_mark b) b bs more p (sym (part_mark (b ∷ bs) b bs refl (sym l) (sym d)) ∙ h))
    (cases_Bool (is_of Digit b)))
    (cases_Bool (is_of Letter b))

pub at_end : (bs : List ℕ) (p : Part) (more : List ℕ) → part bs ≡ got p more → real p ≡ false → bs ≡ []
at_end [] p more e r = refl
at_end (b ∷ bs) p more e r = let one = part_real b bs more p e in cc
