-- How the name of a file is spelled: `yyyymmddThhmmss.ffffff-N`, then `-COPY` unless that is 1, and an ending.
use Rattle.std.specs.Prelude.{◌≡◌, ◌==◌, ◌<◌, ◌^◌, ℕ, if◌then◌else◌, List, [], ◌∷◌, ◌++◌, All}
use Rattle.std.specs.Fmt.{decimal}
use Rattle.comtrade_values.specs.Written.{padded}
use Rattle.dfr_folder.specs.declared.name.Ending.{Ending}
use Rattle.dfr_folder.specs.declared.name.Ending.TheVariants as ending
use Rattle.dfr_folder.specs.declared.name.Key.{Key}
use Rattle.dfr_folder.specs.declared.name.Name.{Name}

-- `cfg`, `dat`, `cfg.part`, `dat.part`, `cfg.gone`
abbrev pub ending_text : Ending → List ℕ
ending_text ending.Config = 99 ∷ 102 ∷ 103 ∷ []
ending_text ending.Data = 100 ∷ 97 ∷ 116 ∷ []
ending_text ending.ConfigPart = 99 ∷ 102 ∷ 103 ∷ 46 ∷ 112 ∷ 97 ∷ 114 ∷ 116 ∷ []
ending_text ending.DataPart = 100 ∷ 97 ∷ 116 ∷ 46 ∷ 112 ∷ 97 ∷ 114 ∷ 116 ∷ []
ending_text ending.Gone = 99 ∷ 102 ∷ 103 ∷ 46 ∷ 103 ∷ 111 ∷ 110 ∷ 101 ∷ []

-- the record's number, and the number at the end
unfoldable pub numbers_text : ℕ → ℕ → List ℕ
numbers_text number copy = decimal number ++ (if copy == 1 then [] else 45 ∷ decimal copy)

unfoldable pub key_text : Key → List ℕ
key_text key = padded 8 key.date ++ (84 ∷ (padded 6 key.time ++ (46 ∷ (padded 6 key.micros ++ (45 ∷ numbers_text key.number key.copy)))))

unfoldable pub name_text : Name → List ℕ
name_text name = key_text name.key ++ (46 ∷ ending_text name.ending)

-- the key of a file that can be named: each part has its digits
pub record CanBeNamed (key : Key) : Type 0 where
  pub date : key.date < 10 ^ 8
  pub time : key.time < 10 ^ 6
  pub micros : key.micros < 10 ^ 6
  pub number : key.number < 10 ^ 19
  pub some : 0 < key.copy
  pub copy : key.copy < 10 ^ 19

-- no byte is this one
abbrev pub Lacks : ℕ → List ℕ → Type 0
Lacks mark bytes = All (λ b. b ≡ mark → ⊥) bytes
