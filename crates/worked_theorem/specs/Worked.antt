-- The worked cases, in one record.
use Rattle.worked_theorem.specs.Books.{AreBooks}
use Rattle.worked_theorem.specs.Boxing.{SameBox}
use Rattle.worked_theorem.specs.Clashing.{Unremembered, Remembered}
use Rattle.worked_theorem.specs.Conversation.{Converses}
use Rattle.worked_theorem.specs.Filing.{Filed}
use Rattle.worked_theorem.specs.Propagating.{Propagates}
use Rattle.worked_theorem.specs.Rows.{TwoOfFour, NoRows}

pub record Worked : Type 0 where
  -- the books of the cases are books
  pub books : AreBooks
  -- the file of the sample book: 167 bits of fields, one filling bit and 16 name bytes, which are 37 bytes
  pub filed : Filed
  -- ten lines about the sample book, and what is printed for each
  pub converses : Converses
  -- propagation in the sample book with the gate cut, and with the stand cut too
  pub propagates : Propagates
  -- three options that have to differ, with two values each: twice with a ring just made, three trials and then one
  pub remembered : Remembered
  -- the same without memory: stopped with a budget of two trials, refuted with three
  pub unremembered : Unremembered
  -- five options that have to differ: two of them fixed, either way round, leave one box
  pub same_box : SameBox
  -- a table with two live rows of four combinations is not universal
  pub two_of_four : TwoOfFour
  -- a table without rows: an ask is refuted by its first trial
  pub no_rows : NoRows
