-- What the numbers of a board end stand for.
use Rattle.std.specs.Prelude.{◌≡◌, ℕ, Bool, cond, List, [], ◌∷◌, is_some, Some, None, Option, slice_index_or}
use Rattle.lengths.specs.Kind.{Kind}
use Rattle.rules.specs.declared.record.Record.{Record}
use Rattle.rules.specs.Records.{root_of}
use Rattle.board.specs.declared.ports.Ports.{Ports}
use Rattle.board.specs.declared.station.Station.{Station}

-- the weights of the ports 0 to 7, nothing where a port is not wired
abbrev pub weights_of : Ports → List (Option ℕ)
weights_of s = s.weight0 ∷ s.weight1 ∷ s.weight2 ∷ s.weight3 ∷ s.weight4 ∷ s.weight5 ∷ s.weight6 ∷ s.weight7 ∷ []

-- each port has the weight that is given for it
pub record GivenWeights (weights : List (Option ℕ)) (s : Ports) : Type 0 where
  pub port0 : s.weight0 ≡ slice_index_or weights 0 None
  pub port1 : s.weight1 ≡ slice_index_or weights 1 None
  pub port2 : s.weight2 ≡ slice_index_or weights 2 None
  pub port3 : s.weight3 ≡ slice_index_or weights 3 None
  pub port4 : s.weight4 ≡ slice_index_or weights 4 None
  pub port5 : s.weight5 ≡ slice_index_or weights 5 None
  pub port6 : s.weight6 ≡ slice_index_or weights 6 None
  pub port7 : s.weight7 ≡ slice_index_or weights 7 None

-- the weight of port p, where it is wired
abbrev pub weight_at : Ports → ℕ → Option ℕ
weight_at s p = slice_index_or (weights_of s) p None

-- whether port p is wired
abbrev pub wired_at : Ports → ℕ → Bool
wired_at s p = is_some (weight_at s p)

-- the length that was read; the start stands for one that no code gives
abbrev pub length_or : {V : Type 0} → V → Option V → V
length_or start None = start
length_or start (Some length) = length

-- the board's record; the root's is always C, 255 and the start
abbrev pub own_of : {V : Type 0} → Kind V → Station → Record V
own_of k s = cond s.root (root_of k) (record { status = s.status; par = s.par; length = length_or k.start (k.decoded s.code) })

-- a board in numbers: the root or not, with this record, its length by its code, and these ports
pub record Stands {V : Type 0} (k : Kind V) (root : Bool) (own : Record V) (ports : Ports) (made : Station) : Type 0 where
  pub root_is : made.root ≡ root
  pub status_is : made.status ≡ own.status
  pub par_is : made.par ≡ own.par
  pub code_is : made.code ≡ k.coded own.length
  pub ports_are : made.ports ≡ ports
