use Rattle.std.proofs.Common.{◌≡◌, length, sym, ◌∙◌, ap}
use Rattle.coniks_c.specs.Texts.{refusal_text, written}
use Rattle.coniks_c.proofs.StatusLemmas.{status_once}
use Rattle.coniks_c.proofs.text.coniks_text.Goals as goal

pub returns-clause-stated : goal.returns-clause-stated
returns-clause-stated c = λ fault at.
    let same : c.in-Some.refusal ≡ fault = status_once c.in-Some.refusal fault (c.in-Some.ensures.found ∙ sym at) in
    let whole = c.as_bytes-whole.ensures.value ∙ c.text_of.ensures ∙ ap refusal_text same in
    (ap length whole, c.write-2.ensures ∙ ap (written c.args.text.now) whole)
