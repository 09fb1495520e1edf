use Rattle.sheet.specs.declared.decision.Kind.TheVariants.{Fix}
use Rattle.sheet.proofs.Keeping.{keeps_unwithdrawn, withdrawn_named, keeps_withdrawn_named}
use Rattle.sheet.proofs.open.Sheet.withdraw_fix.Goals as goal

pub returns-in_err-ask-clause-stands : goal.returns-in_err-ask-clause-stands
returns-in_err-ask-clause-stands c = keeps_unwithdrawn c.args.book.now c.args.self.now.sets c.args.self.now.long c.args.person Fix c.args.option c.args.value _ c.in_err-ask.ensures

pub returns-clause-sheet : goal.returns-clause-sheet
returns-clause-sheet c = withdrawn_named c.args.book.now c.args.self.now.sets c.args.self.now.long c.args.person Fix c.args.option c.args.value _ c.in_ok-ask.ensures c.withdraw.result _ c.withdraw.ensures.sheet

pub returns-clause-stands : goal.returns-clause-stands
returns-clause-stands c = keeps_withdrawn_named c.args.book.now c.args.self.now.sets c.args.self.now.long c.args.person Fix c.args.option c.args.value _ c.in_ok-ask.ensures c.withdraw.result _ c.withdraw.ensures.value c.withdraw.ensures.sheet
