use Rattle.desk.proofs.commands.obey.Goals as goal

pub returns-in-Ask-clause-after : goal.returns-in-Ask-clause-after
returns-in-Ask-clause-after g c = rw c.in-Ask.is c.in_ok-ask_on-in-Ask.ensures.after

pub returns-in-Ask-clause-promised : goal.returns-in-Ask-clause-promised
returns-in-Ask-clause-promised g c = rw c.in-Ask.is c.in_ok-ask_on-in-Ask.ensures.promised
