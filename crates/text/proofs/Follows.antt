-- The parts of bytes as the lexer takes them, one after another, and that they are the parts that the bytes begin with.
use Rattle.std.proofs.Common.{◌≡◌, ℕ, ◌+◌, ◌-◌, ◌<◌, ◌≤◌, true, false, List, [], ◌∷◌, ◌++◌, length, drop, sym, refl, ap, ◌∙◌, subst, ⊎_elim, append_assoc, arith, length-drop}
use Rattle.std.proofs.lemmas.List.{drop-drop, drop_all, drop_at, append-nil}
use Rattle.std.proofs.lemmas.Bool.{cases_lt}
use Rattle.text.specs.declared.token.Kind.TheVariants.{Blank}
use Rattle.text.specs.Parts.{All, spelling, Proper, Next, Begins, HasParts}
use Rattle.text.specs.Token.{Part, word, number, mark, end, got, skip, part}
use Rattle.text.proofs.Lexing.{real, next_lexed, lexed_next, skip_blanks}

abbrev pub Follows : List Part → List ℕ → List ℕ → Type 0
Follows [] bs rest = bs ≡ rest
Follows (p ∷ ps) bs rest = (more : List ℕ) × (part (skip bs) ≡ got p more) × (real p ≡ true) × Follows ps more rest

proper_real : (p : Part) → Proper p → real p ≡ true
proper_real (word w) h = refl
proper_real (number n) h = refl
proper_real (mark c) h = refl
proper_real end h = absurd h

pub begins_follows : (ps : List Part) (bs rest : List ℕ) → Begins ps bs rest → Follows ps bs rest
begins_follows [] bs rest b = b
begins_follows (p ∷ ps) bs rest b = (b.0, next_lexed p bs b.0 b.1, proper_real p b.1.proper, begins_follows ps b.0 rest b.2)

pub follows_begins : (ps : List Part) (bs rest : List ℕ) → Follows ps bs rest → Begins ps bs rest
follows_begins [] bs rest f = f
follows_begins (p ∷ ps) bs rest f = (f.0, lexed_next p bs f.0 f.1 f.2, follows_begins ps f.0 rest f.3)

pub follows_append : (ps qs : List Part) (bs more rest : List ℕ) → Follows ps bs more → Follows qs more rest → Follows (ps ++ qs) bs rest
follows_append [] qs bs more rest f g = subst (λ (t : List ℕ). Follows qs t rest) (sym f) g
follows_append (p ∷ ps) qs bs more rest f g = (f.0, f.1, f.2, follows_append ps qs f.0 more rest f.3 g)

pub follows_split : (ps qs : List Part) (bs rest : List ℕ) → Follows (ps ++ qs) bs rest → (more : List ℕ) × Follows ps bs more × Follows qs more rest
follows_split [] qs bs rest f = (bs, refl, f)
follows_split (p ∷ ps) qs bs rest f = let s = follows_split ps qs f.0 rest f.3 in (s.0, (f.0, f.1, f.2, s.1), s.2)

pub begins_append : (ps qs : List Part) (bs more rest : List ℕ) → Begins ps bs more → Begins qs more rest → Begins (ps ++ qs) bs rest
begins_append [] qs bs more rest f g = subst (λ (t : List ℕ). Begins qs t rest) (sym f) g
begins_append (p ∷ ps) qs bs more rest f g = (f.0, f.1, begins_append ps qs f.0 more rest f.2 g)

-- a text has its parts in one way only

at_end : (p : Part) (bs rest : List ℕ) → skip bs ≡ [] → part (skip bs) ≡ got p rest → real p ≡ true → ⊥
at_end p bs rest none e r =
    let nothing : got end [] ≡ got p rest = sym (ap part none) ∙ e in
    let same : end ≡ p = cc in
    let z : false ≡ true = ap real same ∙ r in
    cc

follows_same : (ps qs : List Part) (bs rest others : List ℕ) → Follows ps bs rest → Follows qs bs others → skip rest ≡ [] → skip others ≡ [] → ps ≡ qs
follows_same [] [] bs rest others f g none nothing = refl
follows_same [] (q ∷ qs) bs rest others f g none nothing = absurd (at_end q bs g.0 (ap skip f ∙ none) g.1 g.2)
follows_same (p ∷ ps) [] bs rest others f g none nothing = absurd (at_end p bs f.0 (ap skip g ∙ nothing) f.1 f.2)
follows_same (p ∷ ps) (q ∷ qs) bs rest others f g none nothing =
    let both : got p f.0 ≡ got q g.0 = sym f.1 ∙ g.1 in
    let same : p ≡ q = cc in
    let left : f.0 ≡ g.0 = cc in
    let later = follows_same ps qs g.0 rest others (subst (λ (t : List ℕ). Follows ps t rest) left f.3) g.3 none nothing in
    λ i. same i ∷ later i

blank_skipped : (bs : List ℕ) → All Blank bs → skip bs ≡ []
blank_skipped bs a = ap skip (sym (append-nil bs)) ∙ skip_blanks bs [] a tt

pub same_parts : (bs : List ℕ) (ps qs : List Part) → HasParts bs ps → HasParts bs qs → ps ≡ qs
same_parts bs ps qs h k = follows_same ps qs bs h.0 k.0 (begins_follows ps bs h.0 h.1) (begins_follows qs bs k.0 k.1) (blank_skipped h.0 h.2) (blank_skipped k.0 k.2)

-- the rest is an end of the bytes

next_drop : (p : Part) (bs rest : List ℕ) → Next p bs rest → (n : ℕ) × (rest ≡ drop n bs)
next_drop p bs rest n =
    let front : List ℕ = n.blanks ++ spelling p in
    (length front, sym (drop_at front rest (length front) refl) ∙ ap (drop (length front)) (sym (n.is ∙ sym (append_assoc n.blanks (spelling p) rest))))

pub begins_drop : (ps : List Part) (bs rest : List ℕ) → Begins ps bs rest → (n : ℕ) × (rest ≡ drop n bs)
begins_drop [] bs rest b = (0, sym b)
begins_drop (p ∷ ps) bs rest b =
    let f = next_drop p bs b.0 b.1 in
    let g = begins_drop ps b.0 rest b.2 in
    (f.0 + g.0, g.1 ∙ ap (drop g.0) f.1 ∙ drop-drop g.0 f.0 bs)

-- an end of a text stands at the place that its length gives
pub end_placed : (t rest : List ℕ) (n : ℕ) → rest ≡ drop n t → rest ≡ drop (length t - length rest) t
end_placed t rest n e =
    let long : length rest ≡ length t - n = ap length e ∙ length-drop n t in
    ⊎_elim
    (λ (l : n < length t). let at : n ≡ length t - length rest = omega arith in e ∙ ap (λ k. drop k t) at)
    (λ (l : length t ≤ n). let at : length t ≡ length t - length rest = omega arith in e ∙ drop_all n t l ∙ sym (drop_all (length t) t (omega arith)) ∙ ap (λ k. drop k t) at)
    (cases_lt n (length t))
