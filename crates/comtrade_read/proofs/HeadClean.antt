-- Each field of a configuration file that is written stands clean in its line.
use Rattle.std.proofs.Common.{◌≡◌, ℕ, ◌+◌, ◌<◌, ◌^◌, true, List, [], ◌∷◌, ◌++◌, length, map, Some, refl, arith}
use Rattle.std.specs.Prelude.{ℤ, pos, negsuc, neg_ℤ, ◌≤ℤ◌, int_le, unsigned_abs, codes}
use Rattle.std.specs.List.{AllByRecursion}
use Rattle.std.specs.Fmt.{decimal, signed_decimal}
use Rattle.std.proofs.lemmas.Int.{ints}
use Rattle.std.proofs.lemmas.Bool.{and_parts}
use Rattle.comtrade_values.specs.Spelling.{Number, IsNumber}
use Rattle.comtrade_values.specs.Written.{decimal_text}
use Rattle.dfr_channels.specs.Parts.{AnalogParts, StatusParts}
use Rattle.comtrade_format.specs.declared.file.Rate.{Rate}
use Rattle.comtrade_format.specs.Parts.{HeadParts}
use Rattle.comtrade_format.specs.Lines.{bit_text}
use Rattle.comtrade_format.specs.Numbered.{numbered}
use Rattle.comtrade_values.specs.Dates.{day_number, time_of_day}
use Rattle.comtrade_format.specs.Cfg.{side_text, kind_text}
use Rattle.comtrade_format.specs.Shape as shape
use Rattle.comtrade_read.proofs.AllOf.{All-append}
use Rattle.comtrade_read.proofs.WrittenFields.{IsClean, clean_printed, clean_plain, printed_decimal, printed_signed, printed_number, printed_count, printed_side, printed_bit, printed_kind, printed_revision}
use Rattle.comtrade_read.proofs.WrittenLines.{IsCleanLine}
use Rattle.comtrade_read.proofs.WrittenDates.{Instant, date_printed, time_printed}
use Rattle.comtrade_values.proofs.Comparing.{int_le-so}
use Rattle.comtrade_format.specs.Cfg.{names_fields, counts_fields, analog_fields, status_fields, rate_fields}
use Rattle.comtrade_values.specs.Dates.{instant_fields}
use Rattle.comtrade_read.proofs.HeadLines.{ends, tail, all_lines}
use Rattle.comtrade_read.proofs.HeadTaken.{AnalogTaken, StatusTaken, rate_taken, HeadTaken}

number_clean : (n : ℕ) → n < 10 ^ 36 → IsClean (decimal n)
number_clean n lt = clean_printed (decimal n) (printed_decimal n (omega arith))

decimal_clean : (d : Number) → IsNumber d → IsClean (decimal_text d)
decimal_clean d h = clean_printed (decimal_text d) (printed_number d h)

small_clean : (z : ℤ) → shape.in_bounds z ≡ true → IsClean (signed_decimal z)
small_clean z e =
    let p = and_parts (int_le (neg_ℤ (pos 99_999)) z) (int_le z (pos 99_999)) e in
    clean_printed (signed_decimal z) (printed_signed z (few z (int_le-so (neg_ℤ (pos 99_999)) z p.0) (int_le-so z (pos 99_999) p.1)))
  where
    few : (z : ℤ) → neg_ℤ (pos 99_999) ≤ℤ z → z ≤ℤ pos 99_999 → unsigned_abs z < 10 ^ 64
    few (pos n) a b = omega (arith, ints)
    few (negsuc n) a b = omega (arith, ints)

analog_clean : (n : ℕ) (c : AnalogParts) → n < 10 ^ 36 → AnalogTaken c → IsCleanLine (analog_fields n c)
unfolding analog_fields
analog_clean n c lt t =
    let b = and_parts (shape.in_bounds c.min) (shape.in_bounds c.max) t.bounds in (
      number_clean n lt,
      (
        clean_plain 0 64 c.id t.id,
        (
          clean_plain 0 2 c.phase t.phase,
          (
            clean_plain 0 64 c.component t.component,
            (
              clean_plain 1 32 c.unit t.unit,
              (
                decimal_clean c.a t.scale.0,
                (
                  decimal_clean c.b t.scale.1.0,
                  (
                    decimal_clean c.skew t.scale.1.1.0,
                    (
                      small_clean c.min b.0,
                      (
                        small_clean c.max b.1,
                        (decimal_clean c.primary t.scale.1.1.1.0, (decimal_clean c.secondary t.scale.1.1.1.1.0, (clean_printed (side_text c.side) (printed_side c.side), tt))),
                      ),
                    ),
                  ),
                ),
              ),
            ),
          ),
        ),
      ),
    )

status_clean : (n : ℕ) (c : StatusParts) → n < 10 ^ 36 → StatusTaken c → IsCleanLine (status_fields n c)
unfolding status_fields
status_clean n c lt t =
    (number_clean n lt, (clean_plain 0 64 c.id t.id, (clean_plain 0 2 c.phase t.phase, (clean_plain 0 64 c.component t.component, (clean_printed (bit_text c.normal) (printed_bit c.normal), tt)))))

analogs_clean : (n : ℕ) (cs : List AnalogParts) → n + length cs < 10 ^ 36 → AllByRecursion AnalogTaken cs → AllByRecursion IsCleanLine (numbered analog_fields n cs)
analogs_clean n [] lt h = tt
analogs_clean n (c ∷ cs) lt h = (analog_clean n c (omega arith) h.0, analogs_clean (n + 1) cs (omega arith) h.1)

statuses_clean : (n : ℕ) (cs : List StatusParts) → n + length cs < 10 ^ 36 → AllByRecursion StatusTaken cs → AllByRecursion IsCleanLine (numbered status_fields n cs)
statuses_clean n [] lt h = tt
statuses_clean n (c ∷ cs) lt h = (status_clean n c (omega arith) h.0, statuses_clean (n + 1) cs (omega arith) h.1)

rates_clean : (before last : ℕ) (rates : List Rate) → AllByRecursion (λ r. IsNumber r.samp) rates → shape.rates_end before rates ≡ Some last → AllByRecursion IsCleanLine (map rate_fields rates)
unfolding rate_fields
rates_clean before last [] h e = tt
rates_clean before last (r ∷ rs) h e =
    let p = rate_taken before last r rs e in
    ((decimal_clean r.samp h.0, (number_clean r.endsamp (omega (arith, p.1)), tt)), rates_clean r.endsamp last rs h.1 p.2)

instant_clean : (t : ℤ) → Instant t → IsCleanLine (instant_fields t)
unfolding instant_fields
instant_clean t i = (clean_printed _ (date_printed (day_number t) i.dated_day), (clean_printed _ (time_printed (time_of_day t) i.small), tt))

one_clean : (f : List ℕ) → IsClean f → IsCleanLine (f ∷ [])
one_clean f c = (c, tt)

names_clean : (h : HeadParts) (rows : ℕ) → HeadTaken h rows → IsCleanLine (names_fields h.station h.device)
unfolding names_fields
names_clean h rows t = (clean_plain 0 64 h.station t.station, (clean_plain 0 64 h.device t.device, (clean_printed (codes "1999") printed_revision, tt)))

counts_clean : (k m : ℕ) → k + m < 1000000 → IsCleanLine (counts_fields k m)
unfolding counts_fields
counts_clean k m lt =
    (number_clean (k + m) (omega arith), (clean_printed (decimal k ++ 65 ∷ []) (printed_count k 65 (omega arith) refl), (clean_printed (decimal m ++ 68 ∷ []) (printed_count m 68 (omega arith) refl), tt)))

pub head_clean : (h : HeadParts) (rows : ℕ) → HeadTaken h rows → AllByRecursion IsCleanLine (all_lines h)
head_clean h rows t =
    let few = t.few in
    let n = t.nrates in
    let A = numbered analog_fields 1 h.analog in
    let S = numbered status_fields 1 h.status in (
      names_clean h rows t,
      (
        counts_clean (length h.analog) (length h.status) t.few,
        All-append IsCleanLine A (S ++ tail h) (analogs_clean 1 h.analog (omega arith) t.analog)
            (All-append IsCleanLine S (tail h) (statuses_clean 1 h.status (omega arith) t.status) (
              one_clean _ (decimal_clean h.line_freq t.numbers.line_freq),
              (
                one_clean _ (number_clean h.nrates (omega arith)),
                All-append IsCleanLine (map rate_fields h.rates) (ends h) (rates_clean 0 rows h.rates t.numbers.rates t.rates)
                    (instant_clean h.first t.first, (instant_clean h.trigger t.trigger, (one_clean _ (clean_printed (kind_text h.kind) (printed_kind h.kind)), (one_clean _ (decimal_clean h.timemult t.numbers.timemult), tt)))),
              ),
            )),
      ),
    )
