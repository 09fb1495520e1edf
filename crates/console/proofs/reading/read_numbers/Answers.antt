use Rattle.std.proofs.Common.{◌≡◌, ◌+◌, ◌^◌, ◌<◌, [], ◌∷◌, ◌++◌, length, Some, sym, ap, ◌∙◌, arith}
use Rattle.std.proofs.lemmas.List.{length_push}
use Rattle.console.proofs.Passing.{digit-step, Blank-step, no_step, end_some, end_none, ten_more}
use Rattle.console.proofs.Numbers.{below_million}
use Rattle.console.proofs.Bridge.{pass_is}
use Rattle.console.proofs.reading.read_numbers.Goals as goal
use Rattle.console.proofs.reading.read_numbers.Goals.{in-Digit, in-Blank}

pub returns-in-Wrong : goal.returns-in-Wrong
returns-in-Wrong c =
    sym (sym (pass_is c.args.text.now) ∙ sym c.loop-byte.invariant.0 ∙ no_step c.args.text.now c.loop-byte.numbers.items c.loop-byte.value c.loop-byte.digits c.loop-byte.byte-index c.loop-byte-test.true
    (λ p q r. c.in-Wrong.ensures.0 (p, q, r)) (λ p q r. c.in-Wrong.ensures.1 (p, q, omega arith)))

pub loop-byte-preserved : goal.loop-byte-preserved
loop-byte-preserved c =
    elim c.match-role.branch [
      | in-Digit w ↦
          let m = w.in-Digit.ensures in
          let e = digit-step c.args.text.now c.loop-byte.numbers.items c.loop-byte.value c.loop-byte.digits c.loop-byte.byte-index c.loop-byte-test.true m.0 m.1 m.2 in
          let t = ten_more c.loop-byte.digits in
          let u : 10 ^ c.match-role.digits ≡ 10 ^ (c.loop-byte.digits + 1) = ap (λ z. 10 ^ z) w.digits-is in
          let n : length c.match-role.numbers.items ≡ length c.loop-byte.numbers.items = ap (λ z. length z.items) w.numbers-is in
          ((cc), omega arith, omega arith, omega arith)
      | in-Blank w ↦
          let m = w.in-Blank.ensures in
          let e = Blank-step c.args.text.now c.loop-byte.numbers.items c.loop-byte.value c.loop-byte.digits c.loop-byte.byte-index c.loop-byte-test.true m.0 m.1 (omega arith) in
          let u : 10 ^ c.match-role.digits ≡ 1 = ap (λ z. 10 ^ z) w.digits-is in
          let l = length_push c.loop-byte.numbers.items c.loop-byte.value in
          let n : length c.match-role.numbers.items ≡ length (c.loop-byte.numbers.items ++ c.loop-byte.value ∷ []) = ap (λ z. length z.items) w.numbers-is ∙ ap length w.push.ensures.items in
          ((cc), omega arith, omega arith, omega arith)
    ]

pub overflow_mul-value : goal.overflow_mul-value
overflow_mul-value c =
    let m = c.in-Digit.ensures in
    let b : c.loop-byte.value < 1000000 = below_million c.loop-byte.value c.loop-byte.digits (omega arith) m.2 in
    omega arith

pub overflow_add-value : goal.overflow_add-value
overflow_add-value c =
    let m = c.in-Digit.ensures in
    let b : c.loop-byte.value < 1000000 = below_million c.loop-byte.value c.loop-byte.digits (omega arith) m.2 in
    omega arith

pub returns-then-digits-eq0 : goal.returns-then-digits-eq0
returns-then-digits-eq0 c =
    sym (sym (pass_is c.args.text.now) ∙ sym c.loop-byte.invariant.0 ∙ end_none c.args.text.now c.loop-byte.numbers.items c.loop-byte.value c.loop-byte.digits c.loop-byte.byte-index c.loop-byte-test.false c.if-digits-eq0.true)

pub returns : goal.returns
returns c =
    ap Some c.push-2.ensures.items
    ∙ sym (sym (pass_is c.args.text.now) ∙ sym c.loop-byte.invariant.0 ∙ end_some c.args.text.now c.loop-byte.numbers.items c.loop-byte.value c.loop-byte.digits c.loop-byte.byte-index c.loop-byte-test.false (omega arith))
