-- How a board end begins.
use Rattle.std.specs.Prelude.{◌≡◌, ℕ, Bool, true, false, List, Some, None, Ok, Err, Option, Result, slice_index_or}
use Rattle.lengths.specs.Kind.{Kind}
use Rattle.rules.specs.declared.record.Record.{Record}
use Rattle.rules.specs.Records.{root_of, is_no_record, Numbered}
use Rattle.board.specs.Station.{GivenWeights, own_of}
use Rattle.board.specs.declared.fault.EarFault.{EarFault}
use Rattle.board.specs.declared.fault.EarFault.TheVariants.{Weight, Frame, Alien, Unwired, Unheard, Room, Ear}
use Rattle.board.specs.declared.fault.EarFault.TheVariants.{Record as BadRecord}
use Rattle.board.specs.declared.ports.Ports.{Ports}
use Rattle.board.specs.declared.states.Listening.{Listening}
use Rattle.board.specs.declared.station.Station.{Station}

-- whether a port may be as it is: not wired, or with a weight that is admitted
abbrev pub fine : {V : Type 0} → Kind V → Option ℕ → Bool
fine k None = true
fine k (Some w) = k.admitted w

-- every weight of these is admitted
abbrev pub AllAdmitted : {V : Type 0} → Kind V → List (Option ℕ) → Type 0
AllAdmitted k weights = (p : ℕ) → fine k (slice_index_or weights p None) ≡ true

-- some weight of these is not
abbrev pub SomeUnadmitted : {V : Type 0} → Kind V → List (Option ℕ) → Type 0
SomeUnadmitted k weights = (p : ℕ) × (fine k (slice_index_or weights p None) ≡ false)

-- the record that a board begins with: the root's whatever the numbers, and else that of the numbers
abbrev pub FirstRecord : {V : Type 0} → Kind V → Bool → ℕ → ℕ → ℕ → Record V → Type 0
FirstRecord k true s p c own = own ≡ root_of k
FirstRecord k false s p c own = (is_no_record k s p c ≡ false) × Numbered k s p c own

-- the board as it begins: with these ports, and as the root if it is to be
pub record FirstIs {V : Type 0} (k : Kind V) (root : Bool) (s p c : ℕ) (ports : Ports) (made : Station) : Type 0 where
  pub root_is : made.root ≡ root
  pub ports_are : made.ports ≡ ports
  pub own : FirstRecord k root s p c (own_of k made)

abbrev pub FirstStation : {V : Type 0} → Kind V → Bool → ℕ → ℕ → ℕ → Ports → Option Station → Type 0
FirstStation k root s p c ports None = (root ≡ false) × (is_no_record k s p c ≡ true)
FirstStation k root s p c ports (Some made) = FirstIs k root s p c ports made

-- a board that begins: it has these weights, which are admitted, and has heard nothing
pub record Begun {V : Type 0} (k : Kind V) (root : Bool) (s p c : ℕ) (weights : List (Option ℕ)) (made : Listening V) : Type 0 where
  pub root_is : made.station.root ≡ root
  pub weights_are : GivenWeights weights made.station.ports
  pub weighed : AllAdmitted k weights
  pub own : FirstRecord k root s p c (own_of k made.station)
  pub silent : made.heard ≡ 0

-- why a board does not begin: a weight that is not admitted, and then, for any but the root, numbers that are no record
abbrev pub Unbegun : {V : Type 0} → Kind V → Bool → ℕ → ℕ → ℕ → List (Option ℕ) → EarFault → Type 0
Unbegun k root s p c weights Weight = SomeUnadmitted k weights
Unbegun k root s p c weights BadRecord = AllAdmitted k weights × (root ≡ false) × (is_no_record k s p c ≡ true)
Unbegun k root s p c weights (Frame f) = ⊥
Unbegun k root s p c weights Alien = ⊥
Unbegun k root s p c weights Unwired = ⊥
Unbegun k root s p c weights Unheard = ⊥
Unbegun k root s p c weights Room = ⊥
Unbegun k root s p c weights Ear = ⊥

-- begin
abbrev pub Begins : {V : Type 0} → Kind V → Bool → ℕ → ℕ → ℕ → List (Option ℕ) → Result (Listening V) EarFault → Type 0
Begins k root s p c weights (Ok made) = Begun k root s p c weights made
Begins k root s p c weights (Err f) = Unbegun k root s p c weights f
