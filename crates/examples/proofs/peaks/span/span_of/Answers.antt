use Rattle.std.proofs.Common.{◌≡◌, ◌+◌, ℤ, FitsSigned, to_z, of_z, w32, List, Option, Some, None, take, sym, ◌∙◌, subst, rules}
use Rattle.std.specs.Prelude.{unwrap_or}
use Rattle.std.specs.Int.{int_min, int_max}
use Rattle.std.proofs.lemmas.Int.{to_z-of_z}
use Rattle.examples.specs.declared.peaks.span.Span.{Span}
use Rattle.examples.specs.Samples.{sample, samples, IsSpan, Spans}
use Rattle.examples.proofs.Spanned.{spans_more, some_more, none_more}
use Rattle.examples.proofs.peaks.span.span_of.Goals as goal
use Rattle.examples.proofs.peaks.span.span_of.Goals.{in-Some, in_default}

pub loop-row-preserved : goal.loop-row-preserved
loop-row-preserved c =
    let rows = c.args.rows.now in
    let i = c.loop-row.row-index in
    let row = c.row-item.result in
    elim c.match-sample_of.branch [
      | in-Some w ↦
          let e : sample c.args.channel row ≡ Some w.in-Some.sample = sym c.sample_of.ensures ∙ w.in-Some.is in
          let x = w.in-Some.sample in
          let fits : FitsSigned w32 x = search rules in
          let same : to_z w32 (of_z w32 x) ≡ x = to_z-of_z w32 x fits in
          let begun : w.unwrap_or.result ≡ unwrap_or c.loop-row.span (record { least = x; greatest = x }) = cc (same, w.unwrap_or.ensures) in
          let least : w.with.result.least ≡ int_min w.unwrap_or.result.least x = cc (same, w.with.ensures.least) in
          let greatest : w.with.result.greatest ≡ int_max w.unwrap_or.result.greatest x = cc (same, w.with.ensures.greatest) in
          let span = spans_more (samples c.args.channel (take i rows)) x c.loop-row.span w.unwrap_or.result w.with.result c.loop-row.invariant begun least greatest in
          subst (λ (o : Option Span). Spans (samples c.args.channel (take (i + 1) rows)) o) (sym w.span-is)
          (subst (λ (xs : List ℤ). IsSpan xs w.with.result) (sym (some_more c.args.channel rows i row w.in-Some.sample c.loop-row-test.true c.row-item.is e)) span)
      | in_default w ↦
          let e : sample c.args.channel row ≡ None = sym c.sample_of.ensures ∙ w.in_default.is in
          subst (λ (o : Option Span). Spans (samples c.args.channel (take (i + 1) rows)) o) (sym w.span-is)
          (subst (λ (xs : List ℤ). Spans xs c.loop-row.span) (sym (none_more c.args.channel rows i row c.loop-row-test.true c.row-item.is e)) c.loop-row.invariant)
    ]
