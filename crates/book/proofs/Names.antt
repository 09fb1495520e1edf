-- The name of an option among the bytes of all names.
use Rattle.std.proofs.Common.{◌≡◌, ℕ, zero, suc, ◌+◌, ◌-◌, ◌<◌, ◌≤◌, cond, ltb, List, [], ◌∷◌, length, get_or, take, drop, Ok, Err, sum, sym, refl, ap, ◌∙◌, subst, arith, length-take-le, get_or-take, take-take, lt-ltb}
use Rattle.std.proofs.lemmas.List.{drop-drop}
use Rattle.std.proofs.lemmas.List.Sums.{sum_by-cons, sum_by-take-le, sum_by_more}
use Rattle.questions.specs.declared.question.Question.{Question}
use Rattle.grammar.specs.Layout.{cut}

pub sums_le : (xs : List ℕ) (i n : ℕ) → i ≤ n → sum (take i xs) ≤ sum (take n xs)
sums_le xs i n h = subst (λ l. sum l ≤ sum (take n xs)) (take-take i n xs h) (sum_by-take-le (λ x. x) (take n xs) i)

pub sums_more : (xs : List ℕ) (i : ℕ) → i < length xs → sum (take (i + 1) xs) ≡ sum (take i xs) + get_or xs i 0
sums_more xs i h = sum_by_more (λ x. x) xs i 0 h

pub cut_at : (xs ns : List ℕ) (k : ℕ) → k < length ns → get_or (cut xs ns) k [] ≡ take (get_or ns k 0) (drop (sum (take k ns)) xs)
cut_at xs [] k h = absurd (omega arith)
cut_at xs (n ∷ ns) zero h = refl
cut_at xs (n ∷ ns) (suc k) h =
    cut_at (drop n xs) ns k (omega arith)
    ∙ ap (take (get_or ns k 0)) (drop-drop (sum (take k ns)) n xs ∙ ap (λ m. drop m xs) (sym (sum_by-cons (λ x. x) n (take k ns))))

-- the part of a file from where a name begins to where the next one does
module _ (file sizes lengths : List ℕ) (base options option start end : ℕ) (known : option < options) (sized : options ≤ length sizes) (spelled : options ≤ length lengths)
    (starts : start ≡ base + sum (take option lengths)) (ends : end ≡ base + sum (take (option + 1) lengths)) where
  long : end - start ≡ get_or lengths option 0
  long = omega (arith, sums_more lengths option (omega arith))

  pub name_ordered : start ≤ end
  name_ordered = omega (arith, sums_more lengths option (omega arith))

  pub name_place_lem : take (end - start) (drop start file) ≡ take (get_or lengths option 0) (drop (base + sum (take option lengths)) file)
  name_place_lem = (λ t. take (long t) (drop (starts t) file))

  pub name_value : Ok (take (end - start) (drop start file)) ≡ cond (ltb option (length (take options sizes))) (Ok (get_or (cut (drop base file) (take options lengths)) option [])) (Err Question.OptionKnown)
  name_value =
      let n : length (take options sizes) ≡ options = length-take-le options sizes sized in
      let m : length (take options lengths) ≡ options = length-take-le options lengths spelled in
      let one : get_or (cut (drop base file) (take options lengths)) option [] ≡ take (get_or lengths option 0) (drop (base + sum (take option lengths)) file) =
      cut_at (drop base file) (take options lengths) option (omega (arith, m))
      ∙ (λ t. take (get_or-take options lengths option 0 known t) (drop (sum (take-take option options lengths (omega arith) t)) (drop base file)))
      ∙ ap (take (get_or lengths option 0)) (drop-drop (sum (take option lengths)) base file) in
      ap Ok (name_place_lem ∙ sym one)
      ∙ sym (ap (λ b. cond b (Ok (get_or (cut (drop base file) (take options lengths)) option [])) (Err Question.OptionKnown)) (lt-ltb option (length (take options sizes)) (omega (arith, n))))
