use Rattle.std.proofs.Common.{◌≡◌, ℕ, List, [], ◌++◌, take, Some, None, Option, IfSome, subst}
use Rattle.std.specs.Option.{option_map}
use Rattle.book_bin.proofs.first_bytes.Goals as goal

pub returns : goal.returns
returns g c =
    let know = g.R.Read.remaining in
    let new = c.read_to_end.new.buf.items in
    go (know c.args.reader) new
    (subst (λ n. IfSome (option_map (take n) (know c.args.reader)) (λ xs. new ≡ [] ++ xs)) c.take.ensures.limit
    (subst (λ r. IfSome (option_map (take c.take.result.limit) (know r)) (λ xs. new ≡ [] ++ xs)) c.take.ensures.inner
    (subst (λ old. IfSome (option_map (take c.take.result.limit) (know c.take.result.inner)) (λ xs. new ≡ old ++ xs)) c.new-bytes.ensures.items c.in_ok-read_to_end.ensures.bytes)))
  where
    go : (known : Option (List ℕ)) (new : List ℕ) → IfSome (option_map (take 32769) known) (λ xs. new ≡ [] ++ xs) → IfSome known (λ all. new ≡ take 32769 all)
    go None new h = h
    go (Some all) new h = h
