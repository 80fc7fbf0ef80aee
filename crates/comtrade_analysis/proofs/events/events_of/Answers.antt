use Rattle.std.proofs.Common.{◌≡◌, ℕ, zero, suc, ◌+◌, ◌-◌, ◌≤◌, ◌<◌, ◌++◌, length, List, refl, sym, ap, ◌∙◌, arith}
use Rattle.comtrade_analysis.specs.Events.{events_after, row_events}
use Rattle.comtrade_analysis.specs.declared.events.Event.{Event}
use Rattle.comtrade_analysis.proofs.Ranges.{list_more}
use Rattle.comtrade_analysis.proofs.events.events_of.Goals as goal

-- where a count from 1 ends
last_row : (n many : ℕ) → (many ≡ 0 → n ≡ 1) → (1 ≤ many → n ≤ many) → many ≤ n → n - 1 ≡ many - 1
last_row n zero one within past = let e : n ≡ 1 = one refl in omega arith
last_row n (suc m) one within past = let le : n ≤ suc m = within (omega arith) in omega arith

pub loop-row-preserved : goal.loop-row-preserved
loop-row-preserved g c =
    let rows = c.args.rows.now in
    let contacts = c.args.contacts in
    let n = c.loop-row.row in
    let one : 1 ≤ n = omega arith in
    let within : n < length rows = omega arith in
    let step : events_after rows contacts (n - 1 + 1) ≡ events_after rows contacts (n - 1) ++ row_events rows contacts n =
    list_more (row_events rows contacts) 1 (n - 1) n (omega arith) in
    let count : n + 1 - 1 ≡ n - 1 + 1 = omega arith in (
      c.in_ok-add_row.ensures ∙ ap (λ (xs : List Event). xs ++ row_events rows contacts n) c.loop-row.invariant.0 ∙ sym step
          ∙ ap (λ (k : ℕ). events_after rows contacts k) (sym count),
      λ none. absurd (omega arith),
    )

pub returns : goal.returns
returns g c =
    let rows = c.args.rows.now in
    let last : c.loop-row.row - 1 ≡ length rows - 1 =
    last_row c.loop-row.row (length rows) c.loop-row.invariant.1 c.loop-row.auto.row-end c.loop-row-test.false in
    c.loop-row.invariant.0 ∙ ap (λ (k : ℕ). events_after rows c.args.contacts k) last
