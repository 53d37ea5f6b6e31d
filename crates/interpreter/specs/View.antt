-- What callers see a machine as.
use Rattle.std.specs.Prelude.{ℕ, Bool, Option, refl}
use Rattle.std.specs.Coded.{Coded, code_by, coded×, coded_ℕ, coded_bool, coded_option}

-- a machine: its store, unless a run has it, the steps that the run took, and whether a call of the sink was refused
pub record MachineView (S : Type 0) : Type 0 where
  pub store : Option S
  pub steps_taken : ℕ
  pub sink_refused : Bool

-- a machine is stored as the tuple of these
abbrev pub view_code : {S : Type 0} → Coded S → Coded (MachineView S)
view_code {S} code =
    code_by (Option S × (ℕ × Bool)) (coded× (coded_option code) (coded× coded_ℕ coded_bool))
    (λ m. (m.store, (m.steps_taken, m.sink_refused)))
    (λ parts. record { store = parts.0; steps_taken = parts.1.0; sink_refused = parts.1.1 })
    (λ _. refl)
