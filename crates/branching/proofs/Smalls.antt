-- Propagated sets are small.
use Rattle.std.proofs.Common.{ℕ, ◌^◌, ◌<◌, ◌≤◌, List, length, get_or, sym, subst, mod-lt, arith, pow_mono}
use Rattle.std.proofs.lemmas.Nat.{pow_pos}
use Rattle.book.specs.Books.{contents}
use Rattle.book.specs.declared.book.Book.{Book}
use Rattle.propagate.specs.Sets.{sets_of}
use Rattle.propagate.specs.Propagation.{Propagated}
use Rattle.book.proofs.Sizes.{valid, size_most}

pub small_set : (b : Book) (array : List ℕ) (x : ℕ) → x < length (contents b).sizes → sets_of (contents b) array x < 2 ^ 32
small_set b array x l =
    let k = get_or (contents b).sizes x 0 in
    let s = size_most (contents b) (valid b) x l in
    let most : 2 ^ k ≤ 2 ^ 32 = pow_mono s.1 in
    omega (arith, mod-lt (get_or array x 0) (pow_pos k), most)

pub small_next : (b : Book) (start end : List ℕ) → Propagated (contents b) start end → (x : ℕ) → x < length (contents b).sizes → get_or end x 0 < 2 ^ 32
small_next b start end p x l = subst (λ n. n < 2 ^ 32) (sym (p.exact x l)) (small_set b end x l)
