use Rattle.desk.proofs.Lists.{every_list_keeps_the_promise_lem}
use Rattle.desk.proofs.laws.every_list_keeps_the_promise.Goals as goal

pub returns : goal.returns
returns g c = every_list_keeps_the_promise_lem _ g.S.Store
