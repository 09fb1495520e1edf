use Rattle.std.proofs.Common.{◌≡◌, get_or, None, sym, ap, ◌∙◌}
use Rattle.std.proofs.lemmas.Bool.Decides.{not_from_Decides}
use Rattle.console.specs.Grammar.{ordered, saying, command}
use Rattle.console.proofs.Opening.{command_not, command_by}
use Rattle.console.proofs.Sayings.{told}
use Rattle.console.proofs.reading.parse.Goals as goal

pub returns-then-not-opens : goal.returns-then-not-opens
returns-then-not-opens c =
    let e = sym (command_not c.args.line.now (λ h. not_from_Decides c.opens.result c.opens.ensures c.if-not-opens.true h)) in
    record { value = e; said = told c.args.line.now None e }

pub returns-in_err-numbers-clause-said : goal.returns-in_err-numbers-clause-said
returns-in_err-numbers-clause-said c =
    let line = c.args.line.now in
    told line c.from_residual.result (c.from_residual.ensures ∙ ap (saying (get_or line 0 0)) c.in_err-numbers.ensures ∙ sym (command_by line (c.opens.ensures.0 c.if-not-opens.false)))

pub returns : goal.returns
returns c =
    let line = c.args.line.now in
    let letter = get_or line 0 0 in
    let e : c.order.result ≡ command line =
    c.order.ensures ∙ ap (ordered letter) c.as_slice.ensures.value ∙ ap (saying letter) c.in_ok-numbers.ensures
    ∙ sym (command_by line (c.opens.ensures.0 c.if-not-opens.false)) in
    record { value = e; said = told line c.order.result e }
