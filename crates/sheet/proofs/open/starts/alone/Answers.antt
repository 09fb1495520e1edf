use Rattle.std.proofs.Common.{sym, ◌∙◌, subst, ⊎_elim, arith, eq-eqb, eqb-true}
use Rattle.values.specs.Members.{In}
use Rattle.values.proofs.Digits.{in_one_only}
use Rattle.sheet.proofs.Unions.{alone_is}
use Rattle.sheet.proofs.open.starts.alone.Goals as goal

pub returns-else-set-eq0 : goal.returns-else-set-eq0
returns-else-set-eq0 c =
    let s = c.args.set in
    let v = c.args.value in (
      λ e w h. in_one_only v w (subst (λ n. In n w) (eqb-true s _ e ∙ c.only.ensures) h),
      λ h. ⊎_elim (λ z. absurd (omega arith)) (λ z. eq-eqb s _ (z ∙ sym c.only.ensures)) (alone_is s v h),
    )
