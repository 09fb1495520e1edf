use Rattle.worked_theorem.proofs.Cases.{books, filed, propagates, same_box, two_of_four, no_rows}
use Rattle.worked_theorem.proofs.Clashes.{remembered, unremembered}
use Rattle.worked_theorem.proofs.Lines.{converses}
use Rattle.worked_theorem.proofs.the_worked_cases_hold.Goals as goal

pub returns : goal.returns
returns c = record {
  books = books;
  filed = filed;
  converses = converses;
  propagates = propagates;
  remembered = remembered;
  unremembered = unremembered;
  same_box = same_box;
  two_of_four = two_of_four;
  no_rows = no_rows;
}
