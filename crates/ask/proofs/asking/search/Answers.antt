use Rattle.std.proofs.Common.{◌+◌, [], length, get_or, take, Some, sym, refl, ap, ◌∙◌, subst, arith}
use Rattle.book.specs.Books.{contents}
use Rattle.trials.specs.Trials.{Trial, stopped, found, spent, settled}
use Rattle.branching.proofs.Opened.{paired_none, frames_none}
use Rattle.branching.proofs.Rises.{leads_start, leads_over, leads_on, leads_out, leads_left, refuted_at_once}
use Rattle.branching.proofs.Roomy.{still_roomy}
use Rattle.ask.proofs.asking.search.Goals as goal

pub trials-init : goal.trials-init
trials-init g c =
    let b = contents c.args.book.now in
    let e = c.new-current.ensures in (
      paired_none b _ _ _ e.none.0 e.none.1 (rw e.sets c.requires.values),
      leads_start b _ _ _ _ _ c.args.store.now 0 _ (frames_none _ _ _ e.none.0) (λ w d. rw e.sets at d),
      omega arith,
      record { branches = omega (arith, c.requires.branches, e.rooms.0); trail = omega (arith, c.requires.trail, e.rooms.1) },
      refl,
    )

pub returns-then-count-budget : goal.returns-then-count-budget
returns-then-count-budget g c =
    let i = c.trials.invariant in
    record {
      asks = leads_over (contents c.args.book.now) _ _ _ _ _ _ _ _ i.1 stopped c.trials.count tt (spent c.if-count-budget.true);
      fit = i.4;
    }

pub returns-in-Settled : goal.returns-in-Settled
returns-in-Settled g c =
    let i = c.trials.invariant in
    let e = c.in-Settled.ensures in
    let b = contents c.args.book.now in
    let w = c.write_fit.ensures in
    let values = take (length b.sizes) c.write_fit.new.fit in
    record {
      asks = subst (λ s. Trial b g.row.S.Denot g.S.Store (Some c.args.budget) c.args.sets c.args.store.now 0 (found values) s (c.trials.count + 1)) (sym e.2)
          (leads_over b _ _ _ _ _ _ _ _ i.1 (found values) (c.trials.count + 1) tt (settled c.if-count-budget.false e.0 w.single));
      fit = λ k l. w.rest k l ∙ ap (λ xs. get_or xs k 0) i.4;
    }

pub trials-preserved-in-Open : goal.trials-preserved-in-Open
trials-preserved-in-Open g c =
    let i = c.trials.invariant in
    let e = c.in-Open.ensures in
    let d = c.descend.ensures in
    let b = contents c.args.book.now in (
      d.paired,
      leads_left b _ _ _ _ _ _ _ _ i.1 c.in-Open.next.sets e.0 c.in-Open.option c.in-Open.value _ _ _ c.if-count-budget.false e.1 d.frames d.sets,
      omega (arith, i.2, c.if-count-budget.false),
      still_roomy b i.3 d.rooms,
      i.4,
    )

pub returns-then-not-climb : goal.returns-then-not-climb
returns-then-not-climb g c =
    let i = c.trials.invariant in
    let b = contents c.args.book.now in
    record {
      asks = leads_out b _ _ _ _ _ _ _ _ i.1 (c.trials.count + 1) [] c.climb.new.search.sets c.look.new.store c.climb.new.store
          (refuted_at_once b _ _ _ c.if-count-budget.false c.in-Refuted.ensures) c.if-not-climb.ensures.climbed;
      fit = i.4;
    }

pub trials-preserved : goal.trials-preserved
trials-preserved g c =
    let i = c.trials.invariant in
    let b = contents c.args.book.now in
    let o = c.if-not-climb.ensures in (
      o.paired,
      leads_on b _ _ _ _ _ _ _ _ i.1 (c.trials.count + 1) _ _ c.look.new.store _ (refuted_at_once b _ _ _ c.if-count-budget.false c.in-Refuted.ensures) o.climbed,
      omega (arith, i.2, c.if-count-budget.false),
      still_roomy b i.3 o.rooms,
      i.4,
    )
