use Rattle.std.proofs.Common.{◌≡◌, ◌+◌, ◌-◌, ◌<◌, suc, length, sym, ap, ◌∙◌, arith}
use Rattle.std.specs.Prelude.{Err}
use Rattle.std.proofs.lemmas.Result.{err_from_is_err_and}
use Rattle.comtrade_values.specs.Lines.{fields}
use Rattle.comtrade_values.specs.Fields.{bit}
use Rattle.comtrade_read.specs.Line.{told}
use Rattle.comtrade_read.specs.Fields.{natural}
use Rattle.comtrade_read.specs.Ascii.{stamp, value}
use Rattle.comtrade_read.proofs.OneByOne.{at_left, next_left}
use Rattle.comtrade_read.proofs.RowLine.{with_bits, with_values, no_number, no_stamp, starts, goes_on, stops}
use Rattle.comtrade_read.proofs.ascii.parts_of.Goals as goal

pub returns-in_err-number : goal.returns-in_err-number
returns-in_err-number g c =
    let p = err_from_is_err_and c.from_residual.result c.from_residual.ensures.1 in
    let number = sym (ap (natural 9999999999) c.first_field.ensures.first) ∙ sym c.natural.ensures.value ∙ c.in_err-number.ensures.0 in
    rw (p.1, p.2) (λ n. ap (told c.args.line) (no_number c.args.k c.args.m (fields c.args.text.now) c.requires.many number) ∙ ap (λ e. Err e) (sym c.in_err-number.ensures.1))

pub returns-in_err-stamp : goal.returns-in_err-stamp
returns-in_err-stamp g c =
    let p = err_from_is_err_and c.from_residual-in_err-stamp.result c.from_residual-in_err-stamp.ensures.1 in
    let fs = fields c.args.text.now in
    let number = sym (ap (natural 9999999999) c.first_field.ensures.first) ∙ sym c.natural.ensures.value ∙ c.in_ok-number.ensures in
    let second = c.first_field-2.ensures.first ∙ at_left fs (fields c.first_field.result.1.now) 1 (omega (arith, c.requires.many)) c.first_field.ensures.rest in
    let read = sym (ap stamp second) ∙ sym c.stamp_of.ensures ∙ c.in_err-stamp.ensures.0 in
    rw (p.1, p.2) (λ n. ap (told c.args.line) (no_stamp c.args.k c.args.m fs c.in_ok-number.number c.requires.many number read) ∙ ap (λ e. Err e) (sym c.in_err-stamp.ensures.1))

pub loop-i-init : goal.loop-i-init
loop-i-init g c =
    let fs = fields c.args.text.now in
    let gs = fields c.first_field.result.1.now in
    let some : 1 < length fs = omega (arith, c.requires.many) in
    let number = sym (ap (natural 9999999999) c.first_field.ensures.first) ∙ sym c.natural.ensures.value ∙ c.in_ok-number.ensures in
    let second = c.first_field-2.ensures.first ∙ at_left fs gs 1 some c.first_field.ensures.rest in
    let read = sym (ap stamp second) ∙ sym c.stamp_of.ensures ∙ c.in_ok-stamp.ensures in
    let z : c.args.k - 0 ≡ c.args.k = omega arith in
    record {
      row = rw (c.in_ok-values.ensures.items, z) (starts c.args.k c.args.m fs c.in_ok-number.number c.in_ok-stamp.stamp c.requires.many number read);
      rest = next_left fs gs (fields c.first_field-2.result.1.now) 1 some c.first_field.ensures.rest c.first_field-2.ensures.rest;
    }

pub returns-in_err-needed : goal.returns-in_err-needed
returns-in_err-needed g c =
    let p = err_from_is_err_and c.from_residual-in_err-needed.result c.from_residual-in_err-needed.ensures.1 in
    let fs = fields c.args.text.now in
    let at = 2 + c.loop-i.i in
    let here = c.first_field-in-loop-i.ensures.first ∙ at_left fs (fields c.loop-i.left.now) at (omega (arith, c.requires.many)) c.loop-i.invariant.rest in
    let read = sym (ap value here) ∙ sym c.value_of.ensures ∙ c.in_err-needed.ensures.0 in
    let n : c.args.k - c.loop-i.i ≡ suc (c.args.k - (c.loop-i.i + 1)) = omega arith in
    let stop = stops value fs at _ _ c.loop-i.values.items (with_values c.args.k c.args.m fs c.in_ok-number.number c.in_ok-stamp.stamp) n read in
    rw (p.1, p.2) (λ _. ap (told c.args.line) (c.loop-i.invariant.row ∙ stop) ∙ ap (λ e. Err e) (sym c.in_err-needed.ensures.1))

pub loop-i-preserved : goal.loop-i-preserved
loop-i-preserved g c =
    let fs = fields c.args.text.now in
    let at = 2 + c.loop-i.i in
    let lt : at < length fs = omega (arith, c.requires.many) in
    let here = c.first_field-in-loop-i.ensures.first ∙ at_left fs (fields c.loop-i.left.now) at lt c.loop-i.invariant.rest in
    let read = sym (ap value here) ∙ sym c.value_of.ensures ∙ c.in_ok-needed.ensures in
    let n : c.args.k - c.loop-i.i ≡ suc (c.args.k - (c.loop-i.i + 1)) = omega arith in
    let s : 2 + (c.loop-i.i + 1) ≡ at + 1 = omega arith in
    record {
      row = rw (c.in_ok-push.ensures.items, s)
          (c.loop-i.invariant.row ∙ goes_on value fs at _ _ c.loop-i.values.items (with_values c.args.k c.args.m fs c.in_ok-number.number c.in_ok-stamp.stamp) c.in_ok-needed.field-0 n read);
      rest = rw s (next_left fs (fields c.loop-i.left.now) (fields c.first_field-in-loop-i.result.1.now) at lt c.loop-i.invariant.rest c.first_field-in-loop-i.ensures.rest);
    }

pub returns-in_err-needed-2 : goal.returns-in_err-needed-2
returns-in_err-needed-2 g c =
    let p = err_from_is_err_and c.from_residual-in_err-needed-2.result c.from_residual-in_err-needed-2.ensures.1 in
    let fs = fields c.args.text.now in
    let at = 2 + c.args.k + c.loop-j.j in
    let here = c.first_field-in-loop-j.ensures.first ∙ at_left fs (fields c.loop-j.left.now) at (omega (arith, c.requires.many)) c.loop-j.invariant.rest in
    let read = sym (ap bit here) ∙ sym c.bit_of.ensures ∙ c.in_err-needed-2.ensures.0 in
    let n : c.args.m - c.loop-j.j ≡ suc (c.args.m - (c.loop-j.j + 1)) = omega arith in
    let stop = stops bit fs at _ _ c.loop-j.bits.items (with_bits c.in_ok-number.number c.in_ok-stamp.stamp c.loop-i.values.items) n read in
    rw (p.1, p.2) (λ _. ap (told c.args.line) (c.loop-j.invariant.row ∙ stop) ∙ ap (λ e. Err e) (sym c.in_err-needed-2.ensures.1))

pub loop-j-preserved : goal.loop-j-preserved
loop-j-preserved g c =
    let fs = fields c.args.text.now in
    let at = 2 + c.args.k + c.loop-j.j in
    let lt : at < length fs = omega (arith, c.requires.many) in
    let here = c.first_field-in-loop-j.ensures.first ∙ at_left fs (fields c.loop-j.left.now) at lt c.loop-j.invariant.rest in
    let read = sym (ap bit here) ∙ sym c.bit_of.ensures ∙ c.in_ok-needed-2.ensures in
    let n : c.args.m - c.loop-j.j ≡ suc (c.args.m - (c.loop-j.j + 1)) = omega arith in
    let s : 2 + c.args.k + (c.loop-j.j + 1) ≡ at + 1 = omega arith in
    record {
      row = rw (c.in_ok-push-2.ensures.items, s)
          (c.loop-j.invariant.row ∙ goes_on bit fs at _ _ c.loop-j.bits.items (with_bits c.in_ok-number.number c.in_ok-stamp.stamp c.loop-i.values.items) c.in_ok-needed-2.field-0 n read);
      rest = rw s (next_left fs (fields c.loop-j.left.now) (fields c.first_field-in-loop-j.result.1.now) at lt c.loop-j.invariant.rest c.first_field-in-loop-j.ensures.rest);
    }
