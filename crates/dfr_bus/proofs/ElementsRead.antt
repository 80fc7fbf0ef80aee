-- What is read as an element is one, and each element is read.
use Rattle.std.proofs.Common.{◌≡◌, ℕ, ◌+◌, ◌-◌, ◌<◌, ◌≤◌, ◌⊎◌, Bool, true, false, List, Result, Ok, Err, refl, sym, ap, ◌∙◌, subst, inl, inr, eq-eqb, arith}
use Rattle.std.specs.Prelude.{◌==◌, nat_lt, if◌then◌else◌}
use Rattle.std.proofs.lemmas.Bool.{ltb-true, ltb-false, lt-ltb, le-ltb, ne_eqb, eqb-false, eqb-true, cases_Bool}
use Rattle.dfr_bus.specs.declared.span.Span.{Span}
use Rattle.dfr_bus.specs.declared.fault.Fault.{Fault}
use Rattle.dfr_bus.specs.declared.fault.Wrong.TheVariants.{CutShort, Tag, IndefiniteLength, ReservedLength, TooLong}
use Rattle.dfr_bus.specs.Bytes.{byte, number_from}
use Rattle.dfr_bus.specs.Readings.{fault}
use Rattle.dfr_bus.specs.Ber.{sized, long_content_at, content_at, element_at}
use Rattle.dfr_bus.specs.Elements.{IsShort, IsLong, IsLength, IsElement}

-- a fault is no value
abbrev HasFault : {A : Type 0} → Result A Fault → Type 0
HasFault (Ok x) = ⊥
HasFault (Err f) = Unit {0}

pub no_value : {A : Type 0} (f : Fault) (x : A) → ◌≡◌ {A = Result A Fault} (Err f) (Ok x) → ⊥
no_value {A} f x e = let P : Result A Fault → Type 0 = λ r. HasFault r in subst P e tt

-- the value of a reading
abbrev value_or : {A : Type 0} → A → Result A Fault → A
value_or x (Ok y) = y
value_or x (Err f) = x

pub same_value : {A : Type 0} (x y : A) → ◌≡◌ {A = Result A Fault} (Ok x) (Ok y) → x ≡ y
same_value {A} x y e = let v : Result A Fault → A = λ r. value_or x r in ap v e

abbrev span : ℕ → ℕ → Span
span a b = record { from = a; to = b }

span_is : (a b : ℕ) (c : Span) → a ≡ c.from → b ≡ c.to → span a b ≡ c
span_is a b c p q = rw (p, q) refl

sized_means : (at from end size : ℕ) (c : Span) → from ≤ end → sized at from end size ≡ Ok c → (from ≡ c.from) × (from + size ≡ c.to) × (c.to ≤ end)
sized_means at from end size c le h =
    elim (cases_Bool (nat_lt (end - from) size)) [
      | inl large ↦ absurd (no_value (fault at TooLong) c (rw large at h))
      | inr room ↦
          let taken : ◌≡◌ {A = Result Span Fault} (Ok (span from (from + size))) (Ok c) = rw room at h in
          let e : span from (from + size) ≡ c = same_value (span from (from + size)) c taken in
          let start : from ≡ c.from = ap (λ (s : Span). s.from) e in
          let stop : from + size ≡ c.to = ap (λ (s : Span). s.to) e in
          let fits : size ≤ end - from = ltb-false (end - from) size room in
          (start, stop, omega (arith, start, stop, fits, le))
    ]

sized_read : (at from end size : ℕ) (c : Span) → from ≡ c.from → from + size ≡ c.to → c.to ≤ end → sized at from end size ≡ Ok c
sized_read at from end size c start stop inside =
    let room : nat_lt (end - from) size ≡ false = le-ltb (end - from) size (omega (arith, start, stop, inside)) in
    let e : span from (from + size) ≡ c = span_is from (from + size) c start stop in
    let goal : ◌≡◌ {A = Result Span Fault} (Ok (span from (from + size))) (Ok c) = ap (λ (s : Span). Ok s) e in
    rw room goal

long_means : (bytes : List ℕ) (at end count : ℕ) (c : Span) → at < end → long_content_at bytes at end count ≡ Ok c
    → (at + 1 + count ≡ c.from) × (c.from + number_from 0 bytes (at + 1) count ≡ c.to) × (c.to ≤ end)
unfolding long_content_at
long_means bytes at end count c lt h =
    elim (cases_Bool (nat_lt (end - (at + 1)) count)) [
      | inl short ↦ absurd (no_value (fault end CutShort) c (rw short at h))
      | inr room ↦
          let fits : count ≤ end - (at + 1) = ltb-false (end - (at + 1)) count room in
          let taken : sized at (at + 1 + count) end (number_from 0 bytes (at + 1) count) ≡ Ok c = rw room at h in
          let m = sized_means at (at + 1 + count) end (number_from 0 bytes (at + 1) count) c (omega (arith, fits, lt)) taken in
          (m.0, omega (arith, m.0, m.1), m.2)
    ]

content_means : (bytes : List ℕ) (at end : ℕ) (c : Span) → at ≤ end → content_at bytes at end ≡ Ok c
    → IsLength bytes at c.from (c.to - c.from) × (c.from ≤ c.to) × (c.to ≤ end)
unfolding content_at
content_means bytes at end c le h =
    elim (cases_Bool (at == end)) [
      | inl none ↦ absurd (no_value (fault end CutShort) c (rw none at h))
      | inr some ↦
          let differs : at ≡ end → ⊥ = eqb-false at end some in
          let lt : at < end = omega (arith, differs, le) in
          elim (cases_Bool (nat_lt (byte bytes at) 128)) [
            | inl short ↦
                let taken : sized at (at + 1) end (byte bytes at) ≡ Ok c = rw (some, short) at h in
                let m = sized_means at (at + 1) end (byte bytes at) c (omega (arith, lt)) taken in
                (inl (record { form = ltb-true (byte bytes at) 128 short; start = sym m.0; says = omega (arith, m.0, m.1) }), omega (arith, m.0, m.1), m.2)
            | inr not_short ↦
                elim (cases_Bool (byte bytes at == 128)) [
                  | inl indefinite ↦ absurd (no_value (fault at IndefiniteLength) c (rw (some, not_short, indefinite) at h))
                  | inr definite ↦
                      elim (cases_Bool (byte bytes at == 255)) [
                        | inl reserved ↦ absurd (no_value (fault at ReservedLength) c (rw (some, not_short, definite, reserved) at h))
                        | inr long ↦
                            let taken : long_content_at bytes at end (byte bytes at - 128) ≡ Ok c = rw (some, not_short, definite, long) at h in
                            let m = long_means bytes at end (byte bytes at - 128) c lt taken in
                            let from_128 : 128 ≤ byte bytes at = ltb-false (byte bytes at) 128 not_short in
                            let not_128 : byte bytes at ≡ 128 → ⊥ = eqb-false (byte bytes at) 128 definite in
                            let not_255 : byte bytes at ≡ 255 → ⊥ = eqb-false (byte bytes at) 255 long in
                            (inr (record { least = omega (arith, from_128, not_128); reserved = not_255; start = sym m.0; says = omega (arith, m.0, m.1) }), omega (arith, m.0, m.1), m.2)
                      ]
                ]
          ]
    ]

content_read : (bytes : List ℕ) (at end : ℕ) (c : Span) → IsLength bytes at c.from (c.to - c.from) → c.from ≤ c.to → c.to ≤ end
    → content_at bytes at end ≡ Ok c
unfolding content_at long_content_at
content_read bytes at end c (inl s) order inside =
    let lt : at < end = omega (arith, s.start, order, inside) in
    let goes_on : (at == end) ≡ false = ne_eqb at end (λ e. omega (arith, e, lt)) in
    let short : nat_lt (byte bytes at) 128 ≡ true = lt-ltb (byte bytes at) 128 s.form in
    let taken : sized at (at + 1) end (byte bytes at) ≡ Ok c = sized_read at (at + 1) end (byte bytes at) c (sym s.start) (omega (arith, s.start, s.says, order)) inside in
    rw (goes_on, short) taken
content_read bytes at end c (inr l) order inside =
    let lt : at < end = omega (arith, l.start, order, inside) in
    let goes_on : (at == end) ≡ false = ne_eqb at end (λ e. omega (arith, e, lt)) in
    let not_short : nat_lt (byte bytes at) 128 ≡ false = le-ltb (byte bytes at) 128 (omega (arith, l.least)) in
    let definite : (byte bytes at == 128) ≡ false = ne_eqb (byte bytes at) 128 (λ e. omega (arith, e, l.least)) in
    let long : (byte bytes at == 255) ≡ false = ne_eqb (byte bytes at) 255 l.reserved in
    let room : nat_lt (end - (at + 1)) (byte bytes at - 128) ≡ false = le-ltb (end - (at + 1)) (byte bytes at - 128) (omega (arith, l.start, order, inside)) in
    let n = number_from 0 bytes (at + 1) (byte bytes at - 128) in
    let taken : sized at (at + 1 + (byte bytes at - 128)) end n ≡ Ok c =
    sized_read at (at + 1 + (byte bytes at - 128)) end n c (sym l.start) (omega (arith, l.start, l.says, order)) inside in
    let after : long_content_at bytes at end (byte bytes at - 128) ≡ Ok c = rw room taken in
    rw (goes_on, not_short, definite, long) after

after_length : (bytes : List ℕ) (at from size : ℕ) → IsLength bytes at from size → at < from
after_length bytes at from size (inl s) = omega (arith, s.start)
after_length bytes at from size (inr l) = omega (arith, l.start)

pub element_means : (bytes : List ℕ) (at end tag : ℕ) (c : Span) → at ≤ end → element_at bytes at end tag ≡ Ok c → IsElement bytes at end tag c
unfolding element_at
element_means bytes at end tag c le h =
    elim (cases_Bool (at == end)) [
      | inl none ↦ absurd (no_value (fault end CutShort) c (rw none at h))
      | inr some ↦
          let differs : at ≡ end → ⊥ = eqb-false at end some in
          elim (cases_Bool (byte bytes at == tag)) [
            | inl same ↦
                let taken : content_at bytes (at + 1) end ≡ Ok c = rw (some, same) at h in
                let m = content_means bytes (at + 1) end c (omega (arith, differs, le)) taken in
                record { is_tag = eqb-true (byte bytes at) tag same; length = m.0; order = m.1; inside = m.2 }
            | inr other ↦ absurd (no_value (fault at (Tag tag)) c (rw (some, other) at h))
          ]
    ]

pub element_read : (bytes : List ℕ) (at end tag : ℕ) (c : Span) → IsElement bytes at end tag c → element_at bytes at end tag ≡ Ok c
unfolding element_at
element_read bytes at end tag c h =
    let later = after_length bytes (at + 1) c.from (c.to - c.from) h.length in
    let lt : at < end = omega (arith, later, h.order, h.inside) in
    let goes_on : (at == end) ≡ false = ne_eqb at end (λ e. omega (arith, e, lt)) in
    let same : (byte bytes at == tag) ≡ true = eq-eqb (byte bytes at) tag h.is_tag in
    let taken : content_at bytes (at + 1) end ≡ Ok c = content_read bytes (at + 1) end c h.length h.order h.inside in
    rw (goes_on, same) taken
