-- Boards joined by cables: `far b p` is the far end of the cable at port p of board b, and `rec b` is board b's record.
use Rattle.std.specs.Prelude.{◌≡◌, ℕ, ◌<◌, true, Some, None, Option, ◌==◌, ◌≢◌}
use Rattle.lengths.specs.Kind.{Kind}
use Rattle.rules.specs.declared.neighbourhood.Seen.{Seen}
use Rattle.rules.specs.declared.record.Record.{Record}
use Rattle.network.specs.declared.End.{End}

-- this end of a cable, as it is seen from the other
abbrev pub end_at : ℕ → ℕ → ℕ → End
end_at b p w = record { board = b; port = p; weight = w }

-- cables join ports 0 to 7 of two different boards below n, and both ends tell of the same cable
pub record Cabled (n : ℕ) (far : ℕ → ℕ → Option End) : Type 0 where
  pub near : (b p : ℕ) (e : End) → far b p ≡ Some e → (b < n) × (p < 8)
  pub there : (b p : ℕ) (e : End) → far b p ≡ Some e → (e.board < n) × (e.port < 8)
  pub back : (b p : ℕ) (e : End) → far b p ≡ Some e → far e.board e.port ≡ Some (end_at b p e.weight)
  pub apart : (b p : ℕ) (e : End) → far b p ≡ Some e → e.board ≢ b

-- every cable's weight is admitted
abbrev pub Weighed : {V : Type 0} → Kind V → (ℕ → ℕ → Option End) → Type 0
Weighed k far = (b p : ℕ) (e : End) → far b p ≡ Some e → k.admitted e.weight ≡ true

-- what a port with this far end shows
abbrev pub shown : {V : Type 0} → (ℕ → Record V) → Option End → Option (Seen V)
shown rec None = None
shown rec (Some e) = Some (record { status = (rec e.board).status; length = (rec e.board).length; weight = e.weight; named = ((rec e.board).par == e.port) })

-- what board b sees
abbrev pub around : {V : Type 0} → (ℕ → ℕ → Option End) → (ℕ → Record V) → ℕ → ℕ → Option (Seen V)
around far rec b p = shown rec (far b p)

-- a cable of weight w is added between port p of board a and port q of board b
pub record Adds (far : ℕ → ℕ → Option End) (a p b q w : ℕ) (after : ℕ → ℕ → Option End) : Type 0 where
  pub one_end : after a p ≡ Some (end_at b q w)
  pub other_end : after b q ≡ Some (end_at a p w)
  pub rest : (c r : ℕ) → ((c ≡ a) × (r ≡ p) → ⊥) → ((c ≡ b) × (r ≡ q) → ⊥) → after c r ≡ far c r

-- the cable between port p of board a and its far end e is removed, and both ports are free
pub record Removes (far : ℕ → ℕ → Option End) (a p : ℕ) (e : End) (after : ℕ → ℕ → Option End) : Type 0 where
  pub one_end : after a p ≡ None
  pub other_end : after e.board e.port ≡ None
  pub rest : (c r : ℕ) → ((c ≡ a) × (r ≡ p) → ⊥) → ((c ≡ e.board) × (r ≡ e.port) → ⊥) → after c r ≡ far c r
