-- What lies in places that are used in turn, after a value more.
use Rattle.std.proofs.Common.{◌≡◌, ◌∙◌, sym, ap, subst, refl, ℕ, suc, ◌+◌, ◌-◌, ◌<◌, ◌≤◌, inl, inr, List, [], ◌∷◌, ◌++◌, length, take, drop, get_or, set, reverse, arith, Option, Some, None}
use Rattle.std.specs.Prelude.{slice_get, if◌then◌else◌, nat_lt}
use Rattle.std.proofs.lemmas.Bool.{cases_lt}
use Rattle.std.proofs.lemmas.Bool.Decides.{nat_tests}
use Rattle.std.proofs.lemmas.List.{append-nil, append_assoc, reverse-append, length-reverse, length-append, length-take, length-drop, length-set, drop_more, drop_all, drop-set-lt, take_more_set, take_all, take_at, take-append-le, get_or_at, get_or-reverse, get_or-take, get_or-drop, get_or_append_left, get_or-append_right}
use Rattle.std.proofs.lemmas.Option.{slice_get_read, slice_get_past}
use Rattle.circular_buffer.specs.Buffer.{Buffer, buffer}
use Rattle.dfr_detect.specs.Rings.{ring_items, IsRing}

-- all places, the newest value first
abbrev whole : {X : Type 0} → List X → ℕ → List X
whole places next = reverse (drop next places ++ take next places)

-- those but the one whose turn it is
abbrev rest : {X : Type 0} → List X → ℕ → List X
rest places at = reverse (drop (at + 1) places ++ take at places)

whole_long : {X : Type 0} (places : List X) (next : ℕ) → length (whole places next) ≡ length places
whole_long places next =
    length-reverse (drop next places ++ take next places) ∙ length-append (drop next places) (take next places) ∙ omega (arith, length-drop next places, length-take next places)

rest_long : {X : Type 0} (places : List X) (at : ℕ) → at < length places → length (rest places at) + 1 ≡ length places
rest_long places at h =
    let long = length-reverse (drop (at + 1) places ++ take at places) ∙ length-append (drop (at + 1) places) (take at places) in
    omega (arith, long, length-drop (at + 1) places, length-take at places)

-- the end is the start
whole_turned : {X : Type 0} (places : List X) (next at : ℕ) → next ≤ length places → at ≡ (if nat_lt next (length places) then next else 0) → whole places next ≡ whole places at
whole_turned places next at low e =
    elim (cases_lt next (length places)) [
      | inl less ↦
          let same : at ≡ next = grind (arith, nat_tests) in
          ap (whole places) (sym same)
      | inr more ↦
          let start : at ≡ 0 = grind (arith, nat_tests) in
          let none : drop next places ≡ [] = drop_all next places more in
          let all : take next places ≡ places = take_all next places more in
          ap (λ (us : List _). reverse (us ++ take next places)) none ∙ ap (λ (us : List _). reverse us) all ∙ ap (λ (us : List _). reverse us) (sym (append-nil places))
          ∙ ap (whole places) (sym start)
    ]

-- the value whose turn it is is the oldest
before : {X : Type 0} (places : List X) (at : ℕ) (y : X) → at < length places → y ≡ get_or places at y → whole places at ≡ rest places at ++ y ∷ []
before places at y h is =
    let first : drop at places ≡ y ∷ drop (at + 1) places = drop_more places at y h ∙ ap (λ (v : _). v ∷ drop (at + 1) places) (sym is) in
    ap (λ (us : List _). reverse (us ++ take at places)) first ∙ reverse-append (y ∷ []) (drop (at + 1) places ++ take at places)

-- and the one that takes its place is the newest
afterwards : {X : Type 0} (places : List X) (at : ℕ) (x : X) → at < length places → whole (set places at x) (at + 1) ≡ x ∷ rest places at
afterwards places at x h =
    let later : drop (at + 1) (set places at x) ≡ drop (at + 1) places = drop-set-lt (at + 1) places at x (omega arith) in
    let sooner : take (at + 1) (set places at x) ≡ take at places ++ x ∷ [] = take_more_set places at x h in
    ap (λ (us : List _). reverse (us ++ take (at + 1) (set places at x))) later ∙ ap (λ (us : List _). reverse (drop (at + 1) places ++ us)) sooner
    ∙ ap (λ (us : List _). reverse us) (sym (append_assoc (drop (at + 1) places) (take at places) (x ∷ []))) ∙ reverse-append (drop (at + 1) places ++ take at places) (x ∷ [])

-- a value more, where all places are filled
pushed_full : {X : Type 0} (x y : X) (r : List X) (n : ℕ) → length r + 1 ≡ n → take n (x ∷ r) ≡ take n (x ∷ take n (r ++ y ∷ []))
pushed_full x y r n e =
    let long : length (r ++ y ∷ []) ≡ n = length-append r (y ∷ []) ∙ e in
    let all : take n (r ++ y ∷ []) ≡ r ++ y ∷ [] = take_all n (r ++ y ∷ []) (omega (arith, long)) in
    let next : suc (length r) ≡ n = omega arith in
    let cut : take (suc (length r)) (x ∷ (r ++ y ∷ [])) ≡ x ∷ r = ap (λ (us : List _). x ∷ us) (take_at r (y ∷ []) (length r) refl) in
    take_all n (x ∷ r) (omega arith) ∙ sym (ap (λ (us : List _). take n (x ∷ us)) all ∙ sym (ap (λ (m : ℕ). take m (x ∷ (r ++ y ∷ []))) next) ∙ cut)

-- and where they aren't
pushed_some : {X : Type 0} (x y : X) (r : List X) (n len : ℕ) → length r + 1 ≡ n → len < n → take (len + 1) (x ∷ r) ≡ take n (x ∷ take len (r ++ y ∷ []))
pushed_some x y r n len e h =
    let kept : take len (r ++ y ∷ []) ≡ take len r = take-append-le len r (y ∷ []) (omega arith) in
    let short = length-take len r in
    let more : take (len + 1) (x ∷ r) ≡ x ∷ take len r = ap (λ (m : ℕ). take m (x ∷ r)) (let one : len + 1 ≡ suc len = omega arith in one) in
    more ∙ sym (ap (λ (us : List _). take n (x ∷ us)) kept ∙ take_all n (x ∷ take len r) (omega (arith, short)))

pub ring_full : {X : Type 0} (places : List X) (next len at : ℕ) (x y : X) → IsRing places next len → at < length places → at ≡ (if nat_lt next (length places) then next else 0) → y ≡ get_or places at y → len ≡ length places
    → ring_items (set places at x) (at + 1) len ≡ take (length places) (x ∷ ring_items places next len)
ring_full places next len at x y h low turn is full =
    let old : whole places next ≡ rest places at ++ y ∷ [] = whole_turned places next at h.low turn ∙ before places at y low is in
    ap (take len) (afterwards places at x low) ∙ ap (λ (m : ℕ). take m (x ∷ rest places at)) full ∙ pushed_full x y (rest places at) (length places) (rest_long places at low)
    ∙ sym (ap (λ (us : List _). take (length places) (x ∷ take len us)) old ∙ ap (λ (m : ℕ). take (length places) (x ∷ take m (rest places at ++ y ∷ []))) full)

pub ring_some : {X : Type 0} (places : List X) (next len at : ℕ) (x y : X) → IsRing places next len → at < length places → at ≡ (if nat_lt next (length places) then next else 0) → y ≡ get_or places at y → len < length places
    → ring_items (set places at x) (at + 1) (len + 1) ≡ take (length places) (x ∷ ring_items places next len)
ring_some places next len at x y h low turn is some =
    let old : whole places next ≡ rest places at ++ y ∷ [] = whole_turned places next at h.low turn ∙ before places at y low is in
    ap (take (len + 1)) (afterwards places at x low) ∙ pushed_some x y (rest places at) (length places) len (rest_long places at low) some
    ∙ sym (ap (λ (us : List _). take (length places) (x ∷ take len us)) old)

-- the value that leaves
pub leaves_full : {X : Type 0} (places : List X) (next len at : ℕ) (x y : X) → IsRing places next len → at < length places → at ≡ (if nat_lt next (length places) then next else 0) → y ≡ get_or places at y → len ≡ length places
    → slice_get (x ∷ ring_items places next len) (length places) ≡ Some y
leaves_full places next len at x y h low turn is full =
    let old : whole places next ≡ rest places at ++ y ∷ [] = whole_turned places next at h.low turn ∙ before places at y low is in
    let long = rest_long places at low in
    let total : length (rest places at ++ y ∷ []) ≡ length (rest places at) + 1 = length-append (rest places at) (y ∷ []) in
    let all : ring_items places next len ≡ rest places at ++ y ∷ [] = ap (take len) old ∙ take_all len (rest places at ++ y ∷ []) (omega (arith, long, total)) in
    let last : slice_get (rest places at ++ y ∷ []) (length (rest places at)) ≡ Some y =
    slice_get_read (rest places at ++ y ∷ []) (length (rest places at) + 1) (length (rest places at)) y (sym total) (omega arith) (sym (get_or_at (rest places at) y [] y (length (rest places at)) refl)) in
    let next : length places ≡ suc (length (rest places at)) = omega (arith, long) in
    ap (λ (us : List _). slice_get (x ∷ us) (length places)) all ∙ ap (slice_get (x ∷ (rest places at ++ y ∷ []))) next ∙ last

pub leaves_none : {X : Type 0} (places : List X) (next len : ℕ) (x : X) → len < length places → slice_get (x ∷ ring_items places next len) (length places) ≡ None
leaves_none places next len x some =
    let short = length-take len (whole places next) in
    slice_get_past (x ∷ ring_items places next len) (length places) (omega (arith, short))

pub ring_long : {X : Type 0} (places : List X) (next len : ℕ) → IsRing places next len → length (ring_items places next len) ≡ len
ring_long places next len h = omega (arith, length-take len (whole places next), whole_long places next, h.few)

-- the value so many before the newest
pub ring_at : {X : Type 0} (places : List X) (next len i place : ℕ) (y : X) → IsRing places next len → i < len → place ≡ (if nat_lt i next then next - 1 - i else next + length places - 1 - i) → y ≡ get_or places place y
    → slice_get (ring_items places next len) i ≡ Some y
ring_at places next len i place y h low e is =
    let n = length places in
    let later = drop next places in
    let sooner = take next places in
    let long = length-drop next places in
    let all : length (later ++ sooner) ≡ n = sym (length-reverse (later ++ sooner)) ∙ whole_long places next in
    let within : i < length (later ++ sooner) = omega (arith, all, h.few) in
    let back : get_or (whole places next) i y ≡ get_or (later ++ sooner) (length (later ++ sooner) - 1 - i) y = get_or-reverse (later ++ sooner) i y within in
    let there : get_or (later ++ sooner) (length (later ++ sooner) - 1 - i) y ≡ get_or places place y =
    elim (cases_lt i next) [
      | inl less ↦
          let at : place ≡ next - 1 - i = grind (arith, nat_tests) in
          get_or-append_right later sooner (n - next) (length (later ++ sooner) - 1 - i) y long (omega (arith, all, h.low, h.few))
          ∙ get_or-take next places (length (later ++ sooner) - 1 - i - (n - next)) y (omega (arith, all, h.low, h.few))
          ∙ ap (λ (j : ℕ). get_or places j y) (omega (arith, all, h.low, h.few, at))
      | inr more ↦
          let at : place ≡ next + n - 1 - i = grind (arith, nat_tests) in
          get_or_append_left later sooner y (length (later ++ sooner) - 1 - i) (omega (arith, all, long, h.few))
          ∙ get_or-drop next places (length (later ++ sooner) - 1 - i) y
          ∙ ap (λ (j : ℕ). get_or places j y) (omega (arith, all, h.few, at))
    ] in
    let got : get_or (ring_items places next len) i y ≡ y = get_or-take len (whole places next) i y low ∙ back ∙ there ∙ sym is in
    let size = ring_long places next len h in
    slice_get_read (ring_items places next len) len i y (sym size) low (sym got)

-- what contracts see after a value more; n is how many places there are
pushed_by : {X : Type 0} (places : List X) (next len at m : ℕ) (x : X) (b : Buffer X) → b ≡ buffer (ring_items places next len) (length places)
    → ring_items (set places at x) (at + 1) m ≡ take (length places) (x ∷ ring_items places next len)
    → buffer (ring_items (set places at x) (at + 1) m) (length (set places at x)) ≡ buffer (take b.capacity (x ∷ b.items)) b.capacity
pushed_by places next len at m x b seen is =
    ap (λ (n : ℕ). buffer (ring_items (set places at x) (at + 1) m) n) (length-set places at x) ∙ ap (λ (us : List _). buffer us (length places)) is
    ∙ sym (ap (λ (c : Buffer _). buffer (take c.capacity (x ∷ c.items)) c.capacity) seen)

pub buffer_full : {X : Type 0} (places : List X) (next len at n : ℕ) (x y : X) (b : Buffer X) → IsRing places next len → n ≡ length places → at < n → at ≡ (if nat_lt next n then next else 0) → y ≡ get_or places at y → len ≡ n
    → b ≡ buffer (ring_items places next len) (length places)
    → (buffer (ring_items (set places at x) (at + 1) len) (length (set places at x)) ≡ buffer (take b.capacity (x ∷ b.items)) b.capacity) × (Some y ≡ slice_get (x ∷ b.items) b.capacity)
buffer_full places next len at n x y b h size low turn is full seen =
    let below : at < length places = subst (λ (m : ℕ). at < m) size low in
    let turned : at ≡ (if nat_lt next (length places) then next else 0) = subst (λ (m : ℕ). at ≡ (if nat_lt next m then next else 0)) size turn in (
      pushed_by places next len at len x b seen (ring_full places next len at x y h below turned is (full ∙ size)),
      sym (ap (λ (c : Buffer _). slice_get (x ∷ c.items) c.capacity) seen ∙ leaves_full places next len at x y h below turned is (full ∙ size)),
    )

pub buffer_some : {X : Type 0} (places : List X) (next len at n : ℕ) (x y : X) (b : Buffer X) → IsRing places next len → n ≡ length places → at < n → at ≡ (if nat_lt next n then next else 0) → y ≡ get_or places at y → len < n
    → b ≡ buffer (ring_items places next len) (length places)
    → (buffer (ring_items (set places at x) (at + 1) (len + 1)) (length (set places at x)) ≡ buffer (take b.capacity (x ∷ b.items)) b.capacity) × (None ≡ slice_get (x ∷ b.items) b.capacity)
buffer_some places next len at n x y b h size low turn is some seen =
    let below : at < length places = subst (λ (m : ℕ). at < m) size low in
    let turned : at ≡ (if nat_lt next (length places) then next else 0) = subst (λ (m : ℕ). at ≡ (if nat_lt next m then next else 0)) size turn in
    let few : len < length places = subst (λ (m : ℕ). len < m) size some in (
      pushed_by places next len at (len + 1) x b seen (ring_some places next len at x y h below turned is few),
      sym (ap (λ (c : Buffer _). slice_get (x ∷ c.items) c.capacity) seen ∙ leaves_none places next len x few),
    )
