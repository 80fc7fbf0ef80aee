-- Texts: what is read of them is what they spell, and nothing else.
use Rattle.std.proofs.Common.{◌≡◌, ℕ, List, [], ◌∷◌, length, map, ap, arith}
use Rattle.std.specs.Prelude.{◌≢◌, Result, Ok, Err, IfOk, IfErr}
use Rattle.std.specs.List.{before_first, AllByRecursion}
use Rattle.comtrade_values.specs.Lines.{fields, lines}
use Rattle.comtrade_format.specs.Parts.{HeadParts, RowParts}
use Rattle.comtrade_read.specs.declared.fault.ReadFault.{ReadFault}
use Rattle.comtrade_read.specs.declared.fault.ReadFault.TheVariants as faults
use Rattle.comtrade_read.specs.Inner.LineFaults.{Is}
use Rattle.comtrade_read.specs.Line.{from_first, each, end}
use Rattle.comtrade_read.specs.Ascii.{data_lines, row_line, rows, is_end_mark}
use Rattle.comtrade_read.specs.Head.{head}
use Rattle.comtrade_read.specs.Reads.{ReadsHead, ReadsAscii}
use Rattle.comtrade_read.proofs.LineEnds.{EndsPlain, EndsFull}
use Rattle.comtrade_read.proofs.Joining.{cut_again}
use Rattle.comtrade_read.proofs.Cutting.{joined_of}
use Rattle.comtrade_read.proofs.HeadSays.{head_said}
use Rattle.comtrade_read.proofs.LineByLine.{follow_said, none_said, each_to}
use Rattle.comtrade_read.proofs.RowLine.{row_ends}

-- ---- a configuration file

pub cfg_only : (cfg : List ℕ) (h : HeadParts) → ReadsHead cfg h → head (map fields (lines cfg)) ≡ Ok h
cfg_only cfg h r = let s = (head_said r.lines h r.head).0 in rw (cut_again cfg r.lines r.joined s.plain s.full) r.head

pub cfg_spelled : (cfg : List ℕ) (h : HeadParts) → head (map fields (lines cfg)) ≡ Ok h → ReadsHead cfg h
cfg_spelled cfg h e = record { lines = map fields (lines cfg); joined = joined_of cfg; head = e }

pub cfg_found : (cfg : List ℕ) (r : Result HeadParts ReadFault) → Is (λ h. h) (head (map fields (lines cfg))) r → IfOk r (λ h. head (map fields (lines cfg)) ≡ Ok h)
cfg_found cfg (Ok h) o = o
cfg_found cfg (Err e) o = tt

pub cfg_fault : (cfg : List ℕ) (r : Result HeadParts ReadFault) → Is (λ h. h) (head (map fields (lines cfg))) r → IfErr r (λ e. e ≢ faults.Memory → head (map fields (lines cfg)) ≡ Err e)
cfg_fault cfg (Ok h) o = tt
cfg_fault cfg (Err e) o = o

-- ---- ASCII data

-- how lines of rows end, and how many rows there are
abbrev Said : ℕ → List RowParts → List (List (List ℕ)) → Type 0
Said n rs ls = AllByRecursion EndsPlain ls × EndsFull ls × (length rs ≡ n)

rows_said : (k m n : ℕ) (ls : List (List (List ℕ))) (rs : List RowParts) → rows k m n ls ≡ Ok rs → Said n rs ls
unfolding rows
rows_said k m n ls rs e =
    let a = follow_said (each (λ before. row_line k m) n [] (from_first ls)) _ rs e in
    let z = follow_said (end a.0.1) _ rs a.2 in
    let none = none_said a.0.1 z.0 z.1 in
    let is : a.0.0 ≡ rs = cc in
    let ends : AllByRecursion EndsPlain a.0.1.lines × EndsFull a.0.1.lines = rw none (tt, tt) in
    let r = each_to (λ before. row_line k m) n [] (from_first ls) a.0 (λ ls. AllByRecursion EndsPlain ls × EndsFull ls) (λ xs fs rest x s. add fs rest x s) a.1 ends in
    let same = ap length is in
    let long : length rs ≡ n = omega (arith, r.0, same) in
    (r.1.0, r.1.1, long)
  where
    add : (fs : List (List ℕ)) (rest : List (List (List ℕ))) (x : RowParts) → row_line k m fs ≡ Ok x → AllByRecursion EndsPlain rest × EndsFull rest → AllByRecursion EndsPlain (fs ∷ rest) × EndsFull (fs ∷ rest)
    add fs [] x s h = let p = row_ends k m fs x s in ((p.0, tt), p.1)
    add fs (l ∷ ls) x s h = (((row_ends k m fs x s).0, h.0), h.1)

pub ascii_spelled : (k m n : ℕ) (dat : List ℕ) (rs : List RowParts) → rows k m n (map fields (data_lines dat)) ≡ Ok rs → (length rs ≡ n) × ReadsAscii k m dat rs
unfolding data_lines
ascii_spelled k m n dat rs e =
    let text = before_first is_end_mark dat in
    let s = rows_said k m n (map fields (lines text)) rs e in
    (s.2, record { lines = map fields (lines text); joined = joined_of text; rows = rw s.2 e })

pub ascii_only : (k m : ℕ) (dat : List ℕ) (rs : List RowParts) → ReadsAscii k m dat rs → rows k m (length rs) (map fields (data_lines dat)) ≡ Ok rs
unfolding data_lines
ascii_only k m dat rs r =
    let s = rows_said k m (length rs) r.lines rs r.rows in
    rw (cut_again (before_first is_end_mark dat) r.lines r.joined s.0 s.1) r.rows
