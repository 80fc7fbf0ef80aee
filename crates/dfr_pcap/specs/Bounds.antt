-- How far a part of a capture reaches.
use Rattle.std.specs.Prelude.{ℕ, ◌+◌, ◌^◌, ◌≤◌, ◌<◌}
use Rattle.dfr_pcap.specs.declared.block.News.{News}
use Rattle.dfr_pcap.specs.declared.block.News.TheVariants as news
use Rattle.dfr_pcap.specs.declared.block.Outcome.{Outcome}
use Rattle.dfr_pcap.specs.declared.block.Outcome.TheVariants as outcomes

-- what was kept of a packet lies within so many bytes
abbrev pub HasContent : News → ℕ → Type 0
HasContent (news.Packet m count all) n = 20 + count ≤ n
HasContent said n = Unit {0}

-- four bytes and more are passed, and not 2^33; what was kept of a packet is within these many
abbrev pub IsSound : Outcome → ℕ → Type 0
IsSound outcomes.Wait n = Unit {0}
IsSound (outcomes.Fault k flaw) n = k < 2 ^ 33
IsSound (outcomes.Pass f) n = (4 ≤ f.length) × (f.length < 2 ^ 33) × HasContent f.news n

-- and at least so many are there
abbrev pub IsInside : Outcome → (need left : ℕ) → Type 0
IsInside (outcomes.Pass f) need left = need ≤ left
IsInside r need left = Unit {0}
