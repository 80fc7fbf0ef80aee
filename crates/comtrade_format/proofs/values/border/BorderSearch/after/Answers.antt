use Rattle.std.proofs.Common.{◌≡◌, ◌==◌, ◌&&◌, ◌||◌, ◌∙◌, ℕ, Option, sym, ap, arith}
use Rattle.comtrade_format.specs.Borders as Borders
use Rattle.comtrade_format.specs.Borders.{interval_at, one_row, stamped, before, follows, differ, fits, changes}
use Rattle.comtrade_format.proofs.Borders.{before-next, each-next, some_of-next}
use Rattle.comtrade_format.proofs.values.border.BorderSearch.after.Goals as goal

pub returns : goal.returns
returns c = λ head stamps seen is.
    let row = c.args.row in
    let old = c.args.self.interval in
    let own = c.interval_in-interval.result in
    let from = c.args.self.time in
    let to = c.stamped-time.result in
    let given : ℕ → Option ℕ = λ k. stamped head.timemult (stamps k) in
    let own_is : own ≡ interval_at head.rates row =
    c.interval_in-interval.ensures ∙ ap one_row (c.rates_from-left.ensures.same row (omega arith) ∙ seen.left row (omega arith)) in
    let to_is : to ≡ given row =
    c.stamped-time.ensures ∙ ap (λ t. stamped t c.args.stamp) seen.timemult ∙ ap (stamped head.timemult) is in
    let fits_is : c.fits_at-fits.result ≡ fits head stamps row =
    c.fits_at-fits.ensures ∙ ap (λ x. row == 0 || follows x own from to) seen.interval
    ∙ ap (λ x. row == 0 || follows (before (interval_at head.rates) row) x from to) own_is
    ∙ ap (λ x. row == 0 || follows (before (interval_at head.rates) row) (interval_at head.rates row) x to) seen.time
    ∙ ap (λ x. row == 0 || follows (before (interval_at head.rates) row) (interval_at head.rates row) (before given row) x) to_is in
    let changes_is : c.differ-differ.result ≡ changes head row =
    c.differ-differ.ensures ∙ ap (λ x. differ x own) seen.interval ∙ ap (λ x. differ (before (interval_at head.rates) row) x) own_is in
    record {
      left = λ later below. c.rates_from-left.ensures.same later (omega arith) ∙ seen.left later (omega arith);
      timemult = seen.timemult;
      has_borders = seen.has_borders;
      interval = own_is ∙ sym (before-next (interval_at head.rates) row);
      time = to_is ∙ sym (before-next given row);
      fits = ap (λ x. x && c.fits_at-fits.result) seen.fits ∙ ap (λ x. Borders.each row (fits head stamps) && x) fits_is
          ∙ sym (each-next row (fits head stamps));
      changes = ap (λ x. x || c.differ-differ.result) seen.changes ∙ ap (λ x. Borders.some_of row (changes head) || x) changes_is
          ∙ sym (some_of-next row (changes head));
    }
