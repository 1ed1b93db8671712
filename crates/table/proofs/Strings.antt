-- Strings of steps and the timed words that stand for them: each draws what the other draws, in as many steps.
use Rattle.std.proofs.Common.{◌≡◌, ℕ, zero, suc, ◌+◌, ◌<◌, List, [], ◌∷◌, ◌++◌, length, sym, refl, ap, ◌∙◌, arith, length-append}
use Rattle.table.specs.Meaning.{Meaning, Lawful, next}
use Rattle.table.specs.Word.{ticks, ticked, Within, drawn, steps, Alike}
use Rattle.table.specs.Steps.{Fit, Over, after, leads, heard, answers, waiting, string}
use Rattle.table.specs.declared.word.Entry.{Entry}
use Rattle.table.specs.declared.word.Step.{Step}
use Rattle.table.specs.declared.word.Step.TheVariants.{Tick, Take}
use Rattle.table.proofs.Ticks.{ticked_more, ticked_first, half_days}

-- one string after another

pub over_append : (n : ℕ) (u w : List Step) → Over n u → Over n w → Over n (u ++ w)
over_append n [] w o p = p
over_append n (x ∷ u) w o p = grind (arith, over_append n u w)

pub leads_append : (m : Meaning) (u w : List Step) (s : ℕ) → leads m (u ++ w) s ≡ leads m w (leads m u s)
leads_append m [] w s = refl
leads_append m (x ∷ u) w s = leads_append m u w (after m x s)

heard_append : (m : Meaning) (x : Step) (s : ℕ) (os ps : List ℕ) → heard m x s (os ++ ps) ≡ heard m x s os ++ ps
heard_append m Tick s os ps = refl
heard_append m (Take i) s os ps = refl

pub answers_append : (m : Meaning) (u w : List Step) (s : ℕ) → answers m (u ++ w) s ≡ answers m u s ++ answers m w (leads m u s)
answers_append m [] w s = refl
answers_append m (x ∷ u) w s = ap (heard m x s) (answers_append m u w (after m x s)) ∙ heard_append m x s (answers m u (after m x s)) _

pub length_push : (w : List Step) (x : Step) → length (w ++ (x ∷ [])) ≡ length w + 1
length_push w x = length-append w (x ∷ [])

-- a string draws as many outputs from any machine
pub answers_cut : (a b : Meaning) (u : List Step) (s t : ℕ) (os ps : List ℕ) → answers a u s ++ os ≡ answers b u t ++ ps → os ≡ ps
answers_cut a b [] s t os ps e = e
answers_cut a b (Tick ∷ u) s t os ps e = answers_cut a b u (a.tick s) (b.tick t) os ps e
answers_cut a b (Take i ∷ u) s t os ps e = answers_cut a b u (next a s i) (next b t i) os ps (cc)

pub after_in : (m : Meaning) → Lawful m → (x : Step) (s : ℕ) → Fit m.inputs x → s < m.count → after m x s < m.count
after_in m law Tick s f h = grind arith
after_in m law (Take i) s f h = grind arith

pub leads_in : (m : Meaning) → Lawful m → (w : List Step) (s : ℕ) → Over m.inputs w → s < m.count → leads m w s < m.count
leads_in m law [] s o h = h
leads_in m law (x ∷ w) s o h = leads_in m law w (after m x s) o.1 (after_in m law x s o.0 h)

-- the string of a timed word

waiting_over : (k n : ℕ) (w : List Step) → Over k w → Over k (waiting n w)
waiting_over k zero w o = o
waiting_over k (suc n) w o = grind (arith, waiting_over k n w)

pub string_over : (k q : ℕ) (w : List Entry) → Within k w → Over k (string q w)
string_over k q [] o = tt
string_over k q (e ∷ w) o = grind (arith, waiting_over, string_over k q w)

waiting_length : (n : ℕ) (w : List Step) → length (waiting n w) ≡ n + length w
waiting_length zero w = grind arith
waiting_length (suc n) w = grind (arith, waiting_length n w)

pub string_length : (q : ℕ) (w : List Entry) → length (string q w) ≡ steps q w
string_length q [] = refl
string_length q (e ∷ w) = grind (arith, waiting_length, string_length q w)

waiting_answers : (m : Meaning) (n : ℕ) (w : List Step) (s : ℕ) → answers m (waiting n w) s ≡ answers m w (ticked m.tick n s)
waiting_answers m zero w s = refl
waiting_answers m (suc n) w s = grind (arith, waiting_answers m n w, ticked_first)

pub string_answers : (m : Meaning) (q : ℕ) (w : List Entry) (s : ℕ) → answers m (string q w) s ≡ drawn m q s w
string_answers m q [] s = refl
string_answers m q (e ∷ w) s = grind (arith, waiting_answers, string_answers m q w)

over_waiting : (k n : ℕ) (w : List Step) → Over k (waiting n w) → Over k w
over_waiting k zero w o = o
over_waiting k (suc n) w o = over_waiting k n w o.1

pub string_within : (k q : ℕ) (w : List Entry) → Over k (string q w) → Within k w
string_within k q [] o = tt
string_within k q (e ∷ w) o =
    let p = over_waiting k (ticks q e.wait) (Take e.input ∷ string q w) o in
    (p.0, string_within k q w p.1)

-- the timed word of a string, in half days, after n ticks

abbrev pub word_from : ℕ → List Step → List Entry
word_from n [] = []
word_from n (Tick ∷ w) = word_from (n + 1) w
word_from n (Take i ∷ w) = record { wait = n; input = i } ∷ word_from 0 w

pub word_within : (k n : ℕ) (w : List Step) → Over k w → Within k (word_from n w)
word_within k n [] o = tt
word_within k n (Tick ∷ w) o = word_within k (n + 1) w o.1
word_within k n (Take i ∷ w) o = grind (arith, word_within k 0 w)

pub word_drawn : (m : Meaning) (n : ℕ) (w : List Step) (s : ℕ) → drawn m 2 s (word_from n w) ≡ answers m w (ticked m.tick n s)
word_drawn m n [] s = refl
word_drawn m n (Tick ∷ w) s = grind (arith, word_drawn m (n + 1) w, ticked_more)
word_drawn m n (Take i ∷ w) s = grind (arith, word_drawn m 0 w, half_days)

-- machines that every timed word finds alike answer every string alike, and the other way round

pub alike_strings : (a b : Meaning) → Alike a b → (w : List Step) → Over a.inputs w → answers a w a.start ≡ answers b w b.start
alike_strings a b al w o =
    sym (word_drawn a 0 w a.start) ∙ al.same 2 (omega arith) (word_from 0 w) (word_within a.inputs 0 w o) ∙ word_drawn b 0 w b.start

pub strings_alike : (a b : Meaning) → a.inputs ≡ b.inputs → ((w : List Step) → Over a.inputs w → answers a w a.start ≡ answers b w b.start) → Alike a b
strings_alike a b e same = record {
  inputs = e;
  same = λ q l w o. sym (string_answers a q w a.start) ∙ same (string q w) (string_over a.inputs q w o) ∙ string_answers b q w b.start;
}
