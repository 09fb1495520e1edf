use Rattle.sheet.specs.declared.decision.Kind.TheVariants.{Fix}
use Rattle.sheet.proofs.Keeping.{keeps_unmade, made_named, keeps_made_named}
use Rattle.sheet.proofs.open.Sheet.fix.Goals as goal

pub returns-in_err-ask-clause-stands : goal.returns-in_err-ask-clause-stands
returns-in_err-ask-clause-stands c = keeps_unmade c.args.book.now c.args.self.now.sets c.args.self.now.long c.args.person Fix c.args.option c.args.value _ c.in_err-ask.ensures

pub returns-clause-sheet : goal.returns-clause-sheet
returns-clause-sheet c = made_named c.args.book.now c.args.self.now.sets c.args.self.now.long c.args.person Fix c.args.option c.args.value _ c.in_ok-ask.ensures c.make.result _ c.make.ensures.sheet

pub returns-clause-stands : goal.returns-clause-stands
returns-clause-stands c = keeps_made_named c.args.book.now c.args.self.now.sets c.args.self.now.long c.args.person Fix c.args.option c.args.value _ c.in_ok-ask.ensures c.make.result _ c.make.ensures.value c.make.ensures.sheet
