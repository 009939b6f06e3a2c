-- A code for verdicts, by which two proofs that a verdict is some value are one: so a type can keep such a proof.
use Rattle.std.specs.Prelude.{◌≡◌, ℕ, ◌⊎◌, Result, refl}
use Rattle.std.proofs.Common.{inl, inr}
use Rattle.std.specs.Coded.{Coded, code_by, coded_ℕ, coded⊎, coded×, coded_result}
use base.Stored.{coded_unit}
use Rattle.trees.specs.declared.host.FaultKind.{FaultKind}
use Rattle.trees.specs.declared.host.FaultKind.TheVariants.{Empty, TooMany, FirstLevel, Level, Other}
use Rattle.trees.specs.declared.host.HostFault.{HostFault}

abbrev Kinds : Type 0
Kinds = Unit {0} ⊎ (Unit {0} ⊎ (Unit {0} ⊎ (Unit {0} ⊎ ℕ)))

abbrev split : FaultKind → Kinds
split Empty = inl tt
split TooMany = inr (inl tt)
split FirstLevel = inr (inr (inl tt))
split Level = inr (inr (inr (inl tt)))
split (Other number) = inr (inr (inr (inr number)))

abbrev join : Kinds → FaultKind
join (inl _) = Empty
join (inr (inl _)) = TooMany
join (inr (inr (inl _))) = FirstLevel
join (inr (inr (inr (inl _)))) = Level
join (inr (inr (inr (inr number)))) = Other number

pub join-split : (k : FaultKind) → join (split k) ≡ k
join-split Empty = refl
join-split TooMany = refl
join-split FirstLevel = refl
join-split Level = refl
join-split (Other number) = refl

abbrev kind_code : Coded FaultKind
kind_code = code_by Kinds (coded⊎ coded_unit (coded⊎ coded_unit (coded⊎ coded_unit (coded⊎ coded_unit coded_ℕ)))) split join join-split

abbrev fault_code : Coded HostFault
fault_code = code_by (FaultKind × ℕ) (coded× kind_code coded_ℕ) (λ f. (f.kind, f.place)) (λ p. record { kind = p.0; place = p.1 }) (λ _. refl)

abbrev pub verdict_code : Coded (Result ℕ HostFault)
verdict_code = coded_result coded_ℕ fault_code
