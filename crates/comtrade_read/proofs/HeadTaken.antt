-- What holds of a head that the writers don't refuse.
use Rattle.std.proofs.Common.{◌≡◌, ℕ, zero, suc, ◌+◌, ◌-◌, ◌<◌, ◌≤◌, max, Bool, true, false, cond, ltb, leb, eqb, List, [], ◌∷◌, length, Option, Some, None, refl, ap, ◌∙◌, arith}
use Rattle.std.specs.Prelude.{ℤ, pos, neg_ℤ, int_le, ◌&&◌}
use Rattle.std.specs.List.{list_all, AllByRecursion}
use Rattle.std.proofs.lemmas.Bool.{leb-true, ltb-true, eqb-true, and_parts}
use Rattle.std.proofs.lemmas.Bool.Decides.{nat_tests}
use Rattle.comtrade_values.specs.Texts.{is_name, is_phase, is_unit}
use Rattle.dfr_channels.specs.Parts.{AnalogParts, StatusParts}
use Rattle.comtrade_format.specs.declared.file.Rate.{Rate}
use Rattle.comtrade_format.specs.Parts.{HeadParts}
use Rattle.comtrade_format.specs.Numbered.{first_from}
use Rattle.comtrade_format.specs.Shape as shape
use Rattle.comtrade_format.specs.Refusals.{text_fault, names_refusal, analog_refusal, status_refusal, text_refusal}
use Rattle.dfr_channels.specs.Decimals.{HasDecimals}
use Rattle.comtrade_read.specs.ReadBack.{HasNumbers}
use Rattle.comtrade_read.proofs.WrittenDates.{Instant, instant_written}
use Rattle.comtrade_values.proofs.Comparing.{int_le-so}
use Rattle.dfr_channels.proofs.Lawful.{or-none, unless-none}

-- a channel that the writer takes
pub record AnalogTaken (c : AnalogParts) : Type 0 where
  pub scale : HasDecimals c
  pub id : is_name c.id ≡ true
  pub phase : is_phase c.phase ≡ true
  pub component : is_name c.component ≡ true
  pub unit : is_unit c.unit ≡ true
  pub bounds : shape.has_bounds c ≡ true

pub record StatusTaken (c : StatusParts) : Type 0 where
  pub id : is_name c.id ≡ true
  pub phase : is_phase c.phase ≡ true
  pub component : is_name c.component ≡ true

analog_taken : (n : ℕ) (cs : List AnalogParts) → AllByRecursion HasDecimals cs → list_all shape.has_bounds cs ≡ true → first_from analog_refusal n cs ≡ None → AllByRecursion AnalogTaken cs
unfolding analog_refusal
analog_taken n [] h b e = tt
analog_taken n (c ∷ cs) h b e =
    let p = or-none (analog_refusal n c) (first_from analog_refusal (n + 1) cs) e in
    let q = or-none (text_fault (is_name c.id) n 2) _ p.0 in
    let r = or-none (text_fault (is_phase c.phase) n 3) _ q.1 in
    let s = or-none (text_fault (is_name c.component) n 4) (text_fault (is_unit c.unit) n 5) r.1 in
    let t = and_parts (shape.has_bounds c) (list_all shape.has_bounds cs) b in (
      record {
        scale = h.0;
        id = unless-none (is_name c.id) _ q.0;
        phase = unless-none (is_phase c.phase) _ r.0;
        component = unless-none (is_name c.component) _ s.0;
        unit = unless-none (is_unit c.unit) _ s.1;
        bounds = t.0;
      },
      analog_taken (n + 1) cs h.1 t.1 p.1,
    )

status_taken : (n : ℕ) (cs : List StatusParts) → first_from status_refusal n cs ≡ None → AllByRecursion StatusTaken cs
unfolding status_refusal
status_taken n [] e = tt
status_taken n (c ∷ cs) e =
    let p = or-none (status_refusal n c) (first_from status_refusal (n + 1) cs) e in
    let q = or-none (text_fault (is_name c.id) n 2) _ p.0 in
    let r = or-none (text_fault (is_phase c.phase) n 3) (text_fault (is_name c.component) n 4) q.1 in (
      record {
        id = unless-none (is_name c.id) _ q.0;
        phase = unless-none (is_phase c.phase) _ r.0;
        component = unless-none (is_name c.component) _ r.1;
      },
      status_taken (n + 1) cs p.1,
    )

-- the first of the rates, and those after it
pub rate_taken : (before last : ℕ) (r : Rate) (rs : List Rate) → shape.rates_end before (r ∷ rs) ≡ Some last → (before ≤ r.endsamp) × (r.endsamp ≤ 9999999999) × (shape.rates_end r.endsamp rs ≡ Some last)
rate_taken before last r rs e = with_test (shape.endsamp_fits before r.endsamp) refl e
  where
    with_test : (b : Bool) → shape.endsamp_fits before r.endsamp ≡ b → cond b (shape.rates_end r.endsamp rs) None ≡ Some last → (before ≤ r.endsamp) × (r.endsamp ≤ 9999999999) × (shape.rates_end r.endsamp rs ≡ Some last)
    with_test true t h = let p = and_parts (leb before r.endsamp) (leb r.endsamp 9999999999) t in (leb-true before r.endsamp p.0, leb-true r.endsamp 9999999999 p.1, h)
    with_test false t h = absurd cc

rate_line_count_max : (n : ℕ) → shape.rate_line_count n ≡ max 1 n
rate_line_count_max zero = refl
rate_line_count_max (suc n) = let t : ltb 0 (suc n) ≡ true = grind (arith, nat_tests) in rw t (omega arith)

end_is : (o : Option ℕ) (n : ℕ) → shape.is_some_of o n ≡ true → o ≡ Some n
end_is None n e = absurd cc
end_is (Some x) n e = ap (λ (y : ℕ). Some y) (eqb-true x n e)

-- a head that the writer takes, with so many rows
pub record HeadTaken (h : HeadParts) (rows : ℕ) : Type 0 where
  pub numbers : HasNumbers h
  pub some : 0 < length h.analog + length h.status
  pub few : length h.analog + length h.status < 1000000
  pub nrates : h.nrates ≤ 999
  pub rate_count : length h.rates ≡ max 1 h.nrates
  pub rates : shape.rates_end 0 h.rates ≡ Some rows
  pub first : Instant h.first
  pub trigger : Instant h.trigger
  pub station : is_name h.station ≡ true
  pub device : is_name h.device ≡ true
  pub analog : AllByRecursion AnalogTaken h.analog
  pub status : AllByRecursion StatusTaken h.status

writable : (t : ℤ) → shape.is_writable t ≡ true → Instant t
writable t e =
    let p = and_parts (int_le (neg_ℤ (pos 62_135_596_800_000_000)) t) (int_le t (pos 253_402_300_799_999_999)) e in
    instant_written t (int_le-so (neg_ℤ (pos 62_135_596_800_000_000)) t p.0) (int_le-so t (pos 253_402_300_799_999_999) p.1)

pub head_taken : (h : HeadParts) (rows : ℕ) → HasNumbers h → shape.head_shaped h ≡ true → shape.is_some_of (shape.rates_end 0 h.rates) rows ≡ true → text_refusal h ≡ None → HeadTaken h rows
unfolding shape.head_shaped
head_taken h rows n s l t =
    let k = length h.analog in
    let m = length h.status in
    let a = and_parts (shape.channels_fit k m && shape.rates_counted h && shape.instants_fit h) (list_all shape.has_bounds h.analog) s in
    let b = and_parts (shape.channels_fit k m && shape.rates_counted h) (shape.instants_fit h) a.0 in
    let c = and_parts (shape.channels_fit k m) (shape.rates_counted h) b.0 in
    let d = and_parts (ltb k 1_000_000 && ltb m (1_000_000 - k)) (ltb 0 (k + m)) c.0 in
    let e = and_parts (ltb k 1_000_000) (ltb m (1_000_000 - k)) d.0 in
    let r = and_parts (leb h.nrates 999) (eqb (length h.rates) (shape.rate_line_count h.nrates)) c.1 in
    let i = and_parts (shape.is_writable h.first) (shape.is_writable h.trigger) b.1 in
    let x = or-none (names_refusal h) _ t in
    let y = or-none (first_from analog_refusal 3 h.analog) (first_from status_refusal (3 + k) h.status) x.1 in
    let z = or-none (text_fault (is_name h.station) 1 1) (text_fault (is_name h.device) 1 2) x.0 in
    let k_low = ltb-true k 1_000_000 e.0 in
    let m_low = ltb-true m (1_000_000 - k) e.1 in
    record {
      numbers = n;
      some = ltb-true 0 (k + m) d.1;
      few = omega arith;
      nrates = leb-true h.nrates 999 r.0;
      rate_count = eqb-true (length h.rates) (shape.rate_line_count h.nrates) r.1 ∙ rate_line_count_max h.nrates;
      rates = end_is (shape.rates_end 0 h.rates) rows l;
      first = writable h.first i.0;
      trigger = writable h.trigger i.1;
      station = unless-none (is_name h.station) _ z.0;
      device = unless-none (is_name h.device) _ z.1;
      analog = analog_taken 3 h.analog n.analog a.1 y.0;
      status = status_taken (3 + k) h.status y.1;
    }
