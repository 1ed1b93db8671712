use Rattle.std.proofs.Common.{◌≡◌, Ok, Err, sym, ap, ◌∙◌, rules}
use Rattle.std.proofs.lemmas.Result.{err_from_is_err_and}
use Rattle.std.proofs.lemmas.Bool.{cond-false, le-ltb}
use Rattle.text.specs.Grammar.{reading}
use Rattle.text.proofs.Exactly.{answers_exactly}
use Rattle.text.proofs.Refusals.{answers_refused}
use Rattle.text.proofs.Places.{read_ok, read_err}
use Rattle.text.proofs.read.read_draft.Goals as goal

pub returns-in_err-draft : goal.returns-in_err-draft
returns-in_err-draft c =
    let p = err_from_is_err_and c.from_residual.result c.from_residual.ensures.1 in
    let is : c.from_residual.result ≡ reading c.args.text.now c.args.from =
    p.1 ∙ ap Err p.2
    ∙ read_err _ _ _ _ c.new-lexer.ensures.0 c.new-lexer.ensures.1 _ c.in_err-draft.ensures.reads
    ∙ sym (cond-false _ _ _ (le-ltb _ _ c.if-text-gt-MAX_BYTES.false)) in
    record { reads = is; ranged = search rules; exactly = answers_exactly _ _ _ is; refused = answers_refused _ _ _ is }

pub returns : goal.returns
returns c =
    let is : Ok (c.in_ok-draft.draft, c.at.result) ≡ reading c.args.text.now c.args.from =
    ap (λ n. Ok (c.in_ok-draft.draft, n)) c.at.ensures
    ∙ read_ok _ _ _ _ c.new-lexer.ensures.0 c.new-lexer.ensures.1 _ c.in_ok-draft.ensures.reads
    ∙ sym (cond-false _ _ _ (le-ltb _ _ c.if-text-gt-MAX_BYTES.false)) in
    record { reads = is; ranged = c.in_ok-draft.ensures.ranged; exactly = answers_exactly _ _ _ is; refused = answers_refused _ _ _ is }
