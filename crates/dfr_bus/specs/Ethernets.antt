-- An Ethernet frame (IEEE 802.3): two addresses, up to two tags of virtual networks (802.1Q), and the type of what follows.
use Rattle.std.specs.Prelude.{ℕ, ◌+◌, ◌-◌, Bool, ◌||◌, List, Option, Some, None, Result, Ok, Err, nat_lt, ◌==◌, if◌then◌else◌}
use Rattle.dfr_bus.specs.declared.span.Span.{Span}
use Rattle.dfr_bus.specs.declared.fault.Fault.{Fault}
use Rattle.dfr_bus.specs.declared.fault.Wrong.TheVariants.{CutShort}
use Rattle.dfr_bus.specs.declared.frame.Ethernet.{Ethernet}
use Rattle.dfr_bus.specs.Bytes.{big_2}
use Rattle.dfr_bus.specs.Readings.{Reading, ◌>>=◌, fault}

-- a number of two bytes
unfoldable pub two_at : (bytes : List ℕ) (at end : ℕ) → Result ℕ Fault
two_at bytes at end = if nat_lt (end - at) 2 then Err (fault end CutShort) else Ok (big_2 bytes at)

-- the types of a customer's tag and of a service's tag: 0x8100 and 0x88A8
abbrev pub is_vlan : ℕ → Bool
is_vlan type = type == 33024 || type == 34984

-- a tag is such a type and two bytes; it may be left out, and the type of what follows comes then
unfoldable pub vlan_at : (bytes : List ℕ) (at end : ℕ) → Result (Option ℕ × ℕ) Fault
vlan_at bytes at end = do
  type ← two_at bytes at end
  if is_vlan type then (two_at bytes (at + 2) end >>= λ tag. Ok (Some tag, at + 4)) else Ok (None, at)

-- of two tags the second stands after the first
unfoldable pub inner_vlan_at : (bytes : List ℕ) (at end : ℕ) → Option ℕ → Result (Option ℕ × ℕ) Fault
inner_vlan_at bytes at end None = Ok (None, at)
inner_vlan_at bytes at end (Some outer) = vlan_at bytes at end

unfoldable pub ethernet_at : (bytes : List ℕ) (at end : ℕ) → Result Ethernet Fault
ethernet_at bytes at end =
    if nat_lt (end - at) 12 then Err (fault end CutShort)
    else (vlan_at bytes (at + 12) end >>= λ outer.
    inner_vlan_at bytes outer.1 end outer.0 >>= λ inner.
    two_at bytes inner.1 end >>= λ type.
    Ok (record {
      destination = record { from = at; to = at + 6 };
      source = record { from = at + 6; to = at + 12 };
      outer = outer.0;
      inner = inner.0;
      ether_type = type;
      payload = record { from = inner.1 + 2; to = end };
    }))
