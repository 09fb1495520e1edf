use Rattle.std.proofs.Common.{rules}
use Rattle.store.specs.Ring.{recent}
use Rattle.store_tests.proofs.Lasting.{last_more, last_all}
use Rattle.store_tests.proofs.rings.told.Goals as goal

pub loop-one-preserved : goal.loop-one-preserved
loop-one-preserved c =
    last_more c.args.boxes.now c.loop-one.one-index 64 _ (recent c.loop-one.ring) (recent c.tell.new.self) (search rules) c.loop-one.invariant c.tell.ensures.change

pub returns : goal.returns
returns c = search (rules, last_all)
