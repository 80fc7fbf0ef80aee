-- What the words after the program's name ask for.
use Rattle.std.specs.Prelude.{◌≡◌, ⊤, ℕ, ◌+◌, ◌&&◌, if◌then◌else◌, List, [], ◌∷◌, Option, Some, None, option_map, codes}
use Rattle.std.specs.Str.{bytes_eq}
use Rattle.comtrade_format.specs.declared.file.Kind.{Kind}
use Rattle.comtrade_format.specs.declared.file.Kind.TheVariants.{Ascii, Binary}
use Rattle.dfr_program.specs.declared.command.Command.{Command}
use Rattle.dfr_program.specs.declared.command.Command.TheVariants.{Replay, Live, Read}

-- `ascii` or `binary`
abbrev pub kind : List ℕ → Option Kind
kind word = if bytes_eq word (codes "ascii") then Some Ascii else if bytes_eq word (codes "binary") then Some Binary else None

-- no word, `replay`, `replay --kind K`, `live SCRIPT DIR`, `live --kind K SCRIPT DIR` or `read CFG DAT`, and nothing else
abbrev pub command : List (List ℕ) → Option Command
command [] = Some (Replay Ascii)
command (verb ∷ []) = if bytes_eq verb (codes "replay") then Some (Replay Ascii) else None
command (verb ∷ x ∷ []) = None
command (verb ∷ x ∷ y ∷ []) =
    if bytes_eq verb (codes "replay") && bytes_eq x (codes "--kind") then option_map Replay (kind y)
    else if bytes_eq verb (codes "live") then Some (Live Ascii 1)
    else if bytes_eq verb (codes "read") then Some (Read 1)
    else None
command (verb ∷ x ∷ y ∷ z ∷ []) = None
command (verb ∷ x ∷ y ∷ z ∷ w ∷ []) =
    if bytes_eq verb (codes "live") && bytes_eq x (codes "--kind") then option_map (λ k. Live k 3) (kind y) else None
command (verb ∷ x ∷ y ∷ z ∷ w ∷ v ∷ more) = None

-- of so many words the last two name files, or a file and a folder, where a command has such
abbrev pub NamesFiles : ℕ → Command → Type 0
NamesFiles count (Read at) = count ≡ at + 2
NamesFiles count (Live kind at) = count ≡ at + 2
NamesFiles count (Replay kind) = ⊤
