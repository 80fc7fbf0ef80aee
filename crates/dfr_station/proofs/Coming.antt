-- What comes of bytes, line by line.
use Rattle.std.proofs.Common.{◌≡◌, ℕ, suc, ◌<◌, ◌≤◌, Bool, true, false, List, [], ◌∷◌, ◌++◌, length, take, drop, get_or, MatchOption, Option, Some, None, refl, sym, ap, ◌∙◌, arith, append_assoc, length-append, inl, inr, ⊎_elim}
use Rattle.std.specs.List.{onto_first}
use Rattle.std.proofs.lemmas.List.Splits.{slice_split_at, slice_split-cons_no, length-slice_split}
use Rattle.std.proofs.lemmas.Bool.{false≢true}
use Rattle.std.proofs.lemmas.List.{append-nil, take-append-le, drop-append-le, drop_at, take_at, length-drop}
use Rattle.dfr_channels.specs.Parts.{SetupParts}
use Rattle.dfr_station.specs.Lines.{ArrivalParts, Lost, refused, is_feed, HasNoFeed, IsFirstLine, FrameMeans, LineMeans}
use Rattle.dfr_station.specs.Input.{one_more, scans_after, with_owed, owed_list, pieces, long, lines_left, PieceGives, LinesGive, frame_size, FramesGive, ReadingParts, Comes, reading_of, Cuts, IsReady, Wants, handed, TakesLine}
use Rattle.dfr_script.specs.Commands.{command_line}
use Rattle.dfr_script.specs.Words.{is_silent}
use Rattle.dfr_station.specs.declared.intake.arrival.Arrival.{Arrival}
use Rattle.dfr_station.specs.declared.intake.cutter.Cutter.{Cutter}
use Rattle.dfr_station.specs.declared.station.Input.TheVariants as form
use Rattle.dfr_station.specs.declared.station.Lowest.{Lowest}
use Rattle.dfr_station.specs.declared.event.Skipped.TheVariants as skipped
use Rattle.dfr_station.specs.declared.intake.feed.Why.TheVariants as why

-- bytes with a line feed: the piece before it, and those after it
pub pieces_at : (piece behind : List ℕ) → HasNoFeed piece → pieces (piece ++ 10 ∷ behind) ≡ piece ∷ pieces behind
pieces_at piece behind none = slice_split_at is_feed piece 10 behind none refl

abbrev pub first_of : List (List ℕ) → List ℕ
first_of ps = get_or ps 0 []

one_at_least : (ps : List (List ℕ)) → 0 < length ps → ps ≡ first_of ps ∷ drop 1 ps
one_at_least [] some = absurd (omega arith)
one_at_least (p ∷ ps) some = refl

-- bytes without a line feed are the front of the first piece
pub pieces_on : (front more : List ℕ) → HasNoFeed front → pieces (front ++ more) ≡ (front ++ first_of (pieces more)) ∷ drop 1 (pieces more)
pieces_on [] more none = one_at_least (pieces more) (omega (arith, length-slice_split is_feed more))
pieces_on (b ∷ front) more none =
    let here : is_feed b ≡ false = none 0 0 (omega arith) in
    let later : HasNoFeed front = λ k d l. none (suc k) d (omega arith) in
    slice_split-cons_no is_feed b (front ++ more) here ∙ ap (onto_first b) (pieces_on front more later)

-- the state after a line
abbrev pub after_line : ReadingParts → ℕ → Bool → Bool → ReadingParts
after_line s came owed skipping = record s { came = came; lines = one_more s.lines; owed = owed; skipping = skipping }

-- what the lines give that are left gives these pieces, too
abbrev pub Leaves : SetupParts → List (List ℕ) → Bool → List ℕ → Type 0
Leaves layout ps skipping rest = (n came : ℕ) (xs : List ArrivalParts) → LinesGive layout n came (lines_left skipping rest) xs → LinesGive layout n came ps xs

-- a piece was used up, and gave these arrivals; a lost scan may be owed
pub line_leads : (layout : SetupParts) (s : ReadingParts) (bytes rest piece : List ℕ) (ps : List (List ℕ)) (given : List ArrivalParts) (came : ℕ) (owed skipping : Bool)
    → s.form ≡ form.Lines → s.owed ≡ false → s.skipping ≡ false
    → pieces bytes ≡ piece ∷ ps → Leaves layout ps skipping rest
    → PieceGives layout (one_more s.lines) s.came piece (given ++ owed_list owed)
    → with_owed came owed ≡ scans_after s.came (given ++ owed_list owed)
    → (xs : List ArrivalParts) → Comes layout (after_line s came owed skipping) rest xs → Comes layout s bytes (given ++ xs)
unfolding Comes LinesGive
line_leads layout s bytes rest piece ps given came true skipping lines paid begins cut leaves gives counted xs comes =
    let later = rw lines at comes in
    rw (lines, paid, begins, cut) (
      given ++ Lost why.Unread ∷ [],
      later.0,
      gives,
      ap (λ l. given ++ l) later.1 ∙ sym (append_assoc given (Lost why.Unread ∷ []) later.0),
      rw counted at (leaves _ _ _ later.2),
    )
line_leads layout s bytes rest piece ps given came false skipping lines paid begins cut leaves gives counted xs comes =
    let later = rw lines at comes in
    rw (lines, paid, begins, cut) (
      given ++ [],
      xs,
      gives,
      ap (λ l. l ++ xs) (sym (append-nil given)),
      rw counted at (leaves _ _ _ later),
    )

-- bytes cut at their first line feed, whatever comes after them
pub pieces_first : (bytes line more : List ℕ) (count : ℕ) (cut : IsFirstLine bytes line count) → pieces (bytes ++ more) ≡ cut.piece ∷ pieces (drop count bytes ++ more)
pieces_first bytes line more count cut =
    let behind : drop count bytes ≡ cut.behind =
    ap (drop count) (cut.cut ∙ sym (append_assoc cut.piece (10 ∷ []) cut.behind))
    ∙ drop_at (cut.piece ++ 10 ∷ []) cut.behind count (omega (arith, cut.counted, length-append cut.piece (10 ∷ []))) in
    ap (λ b. pieces (b ++ more)) cut.cut ∙ ap pieces (append_assoc cut.piece (10 ∷ cut.behind) more)
    ∙ pieces_at cut.piece (cut.behind ++ more) cut.first ∙ ap (λ b. cut.piece ∷ pieces (b ++ more)) (sym behind)

-- a line that fills the buffer is too long, whatever comes after it
pub long_gives : (layout : SetupParts) (n came : ℕ) (bytes more : List ℕ) (xs : List ArrivalParts)
    → length bytes ≡ long → xs ≡ refused n came bytes skipped.Long why.Unread → PieceGives layout n came (bytes ++ more) xs
long_gives layout n came bytes more xs full is = inl (
  omega (arith, length-append bytes more),
  is ∙ ap (λ t. refused n came t skipped.Long why.Unread) (sym (take_at bytes more long full)),
)

-- an empty line says nothing
says_nothing : (layout : SetupParts) (n came : ℕ) (xs : List ArrivalParts) → LineMeans layout n came [] xs → xs ≡ []
unfolding command_line is_silent
says_nothing layout n came xs (inl says) = says
says_nothing layout n came xs (inr failed) = absurd (false≢true (sym failed.0))

-- so nothing comes after the last line feed, if nothing stands there
pub ends_there : (layout : SetupParts) (n came : ℕ) (xs : List ArrivalParts) → LinesGive layout n came ([] ∷ []) xs → LinesGive layout n came [] xs
unfolding LinesGive
ends_there layout n came xs gives =
    let here : gives.0 ≡ [] = ⊎_elim (λ l. absurd (omega (arith, l.0))) (λ l. says_nothing layout n came gives.0 l.1) gives.2 in
    gives.3 ∙ ap (λ h. h ++ gives.1) here ∙ gives.4

pub ended_there : (layout : SetupParts) (n came : ℕ) → LinesGive layout n came ([] ∷ []) []
unfolding LinesGive command_line is_silent
ended_there layout n came = ([], [], inr (omega arith, inl refl), refl, refl)

-- the rest of a line that was too long gives nothing
skip_leads : (layout : SetupParts) (s : ReadingParts) (owed skipping : Bool) (bytes rest : List ℕ) (xs : List ArrivalParts)
    → s.form ≡ form.Lines → s.owed ≡ owed → s.skipping ≡ true → drop 1 (pieces bytes) ≡ lines_left skipping rest
    → Comes layout (record s { skipping = skipping }) rest xs → Comes layout s bytes xs
unfolding Comes
skip_leads layout s true skipping bytes rest xs lines owes skips same comes = rw (lines, owes, skips, same) (rw (lines, owes) at comes)
skip_leads layout s false skipping bytes rest xs lines owes skips same comes = rw (lines, owes, skips, same) (rw (lines, owes) at comes)

-- ---- cutters

pub skips_to : {A : Type 0} (c : Cutter A) (bytes : List ℕ) (skipping : Bool) → c.form ≡ form.Lines → c.is_skipping ≡ true
    → ((more : List ℕ) → drop 1 (pieces (c.buffer ++ more)) ≡ lines_left skipping (bytes ++ more))
    → Cuts false c [] (record c { buffer = bytes; is_skipping = skipping })
skips_to c bytes skipping lines skips same = record {
  first = λ more none xs comes.
      skip_leads c.layout.now (reading_of c) c.is_owed skipping (c.buffer ++ more) (bytes ++ more) xs lines refl skips (same more) comes;
}

pub for_any : {A : Type 0} {c d : Cutter A} {given : List ArrivalParts} (last : Bool) → Cuts false c given d → Cuts last c given d
for_any last cut = record { first = λ more none xs comes. cut.first more (λ e. absurd (false≢true e)) xs comes }

-- a line of so many bytes was used up
pub takes : {A : Type 0} (last : Bool) (c : Cutter A) (o : Option (Arrival A)) (count came : ℕ) (owed skipping : Bool) (piece : List ℕ → List ℕ) (ps : List ℕ → List (List ℕ))
    → IsReady c → 0 < count → count ≤ length c.buffer
    → ((more : List ℕ) → (last ≡ true → more ≡ [])
    → (pieces (c.buffer ++ more) ≡ piece more ∷ ps more) × Leaves c.layout.now (ps more) skipping (drop count c.buffer ++ more)
    × PieceGives c.layout.now (one_more c.lines) c.came (piece more) (handed o ++ owed_list owed))
    → with_owed came owed ≡ scans_after c.came (handed o ++ owed_list owed) → (o ≡ None → owed ≡ false)
    → TakesLine last c o (record c { buffer = drop count c.buffer; lines = one_more c.lines; came = came; is_owed = owed; is_skipping = skipping })
takes last c o count came owed skipping piece ps ready some within cut counted paid = record {
  cut = record {
    first = λ more none xs comes.
        let k = cut more none in
        line_leads c.layout.now (reading_of c) (c.buffer ++ more) (drop count c.buffer ++ more) (piece more) (ps more) (handed o) came owed skipping
        ready.lines ready.paid ready.begins k.0 k.1 k.2 counted xs comes;
  };
  shorter = omega (arith, length-drop count c.buffer);
  same = refl;
  paid = paid;
}

-- no bytes wait, and a line comes next
pub waits_for_line : {A : Type 0} (last : Bool) (c : Cutter A) → IsReady c → c.buffer ≡ [] → Wants last c c
unfolding Comes
waits_for_line last c ready empty = record {
  room = omega (arith, ap length empty);
  cut = record { first = λ more none xs comes. comes };
  over = λ is_last. rw (ready.lines, ready.paid, ready.begins, empty) (ended_there c.layout.now (one_more c.lines) c.came);
}

-- no bytes wait, and the rest of a line that was too long comes next
pub waits_for_rest : {A : Type 0} (last : Bool) (c d : Cutter A) → Cuts false c [] d → d.form ≡ form.Lines → d.is_owed ≡ false → d.is_skipping ≡ true → d.buffer ≡ [] → Wants last c d
unfolding Comes LinesGive
waits_for_rest last c d cut lines paid skips empty = record {
  room = omega (arith, ap length empty);
  cut = for_any last cut;
  over = λ is_last. rw (lines, paid, skips, empty) refl;
}

-- the last line was taken, or none waited
pub last_of : {A : Type 0} (last : Bool) (c d : Cutter A) (r : Option (Option (Arrival A))) → IsReady c → last ≡ true
    → MatchOption r ((d ≡ c) × (c.buffer ≡ [])) (λ handed. TakesLine true c handed d) → MatchOption r (Wants last c d) (λ handed. TakesLine last c handed d)
last_of last c d None ready is_last took = rw took.0 (waits_for_line last c ready took.1)
last_of last c d (Some handed) ready is_last took = rw is_last took

-- the lost scan that is owed comes first
pub pays : {A : Type 0} (last : Bool) (c : Cutter A) → c.form ≡ form.Lines → c.is_owed ≡ true
    → Cuts last c (Lost why.Unread ∷ []) (record c { came = one_more c.came; is_owed = false })
unfolding Comes
pays last c lines owes = record { first = λ more none xs comes. rw (lines, owes) (xs, refl, rw lines at comes) }

-- ---- frames

pub no_frame : (layout : SetupParts) (l : Lowest) (s : ReadingParts) (bytes : List ℕ) → s.form ≡ form.Frames l → length bytes < frame_size layout → Comes layout s (bytes ++ []) []
unfolding Comes FramesGive
no_frame layout l s bytes frames short = rw (frames, append-nil bytes) short

pub frame_leads : (layout : SetupParts) (l : Lowest) (s t : ReadingParts) (bytes more : List ℕ) (a : ArrivalParts) (xs : List ArrivalParts)
    → s.form ≡ form.Frames l → t.form ≡ form.Frames l → frame_size layout ≤ length bytes → FrameMeans layout l (take (frame_size layout) bytes) a
    → Comes layout t (drop (frame_size layout) bytes ++ more) xs → Comes layout s (bytes ++ more) (a ∷ xs)
unfolding Comes FramesGive
frame_leads layout l s t bytes more a xs frames still whole means comes =
    rw frames (
      omega (arith, length-append bytes more),
      rw (take-append-le (frame_size layout) bytes more whole) means,
      rw (drop-append-le (frame_size layout) bytes more whole) (rw still at comes),
    )
