-- What `?` hands on.
use Rattle.std.proofs.Common.{◌≡◌, ◌∙◌, refl}
use Rattle.std.specs.Prelude.{Result, Ok, Err, MatchResult, IfErr}
use Rattle.std.specs.Result.{IsErrAnd}
use Rattle.kdb_base.specs.Key.{Key}
use Rattle.master_keys.specs.declared.faults.Unopened.{Unopened}
use Rattle.master_keys.specs.declared.faults.Unopened.TheVariants.{MemoryOut, Wrong}
use Rattle.master_keys.specs.declared.faults.ChainFault.{ChainFault}
use Rattle.master_keys.specs.declared.faults.ChainFault.TheVariants as chain
use Rattle.master_keys.specs.Faults.{chain_fault}

pub handed_on : {T : Type 0} (result : Result T Unopened) (Q : T → Type 0) (fault : Unopened)
    → IsErrAnd result (λ e. e ≡ fault) → fault ≡ MemoryOut → MatchResult result Q (λ e. e ≡ MemoryOut)
handed_on (Ok x) Q fault h m = absurd h
handed_on (Err e) Q fault h m = h ∙ m

pub handed_on_err : {T : Type 0} (result : Result T Unopened) (fault : Unopened) → IsErrAnd result (λ e. e ≡ fault)
    → fault ≡ MemoryOut → IfErr result (λ e. e ≡ MemoryOut)
handed_on_err (Ok x) fault h m = absurd h
handed_on_err (Err e) fault h m = h ∙ m

-- a fault that is no wrong key
pub only_memory : (fault : Unopened) (result : ChainFault) → result ≡ chain_fault fault → (fault ≡ Wrong → ⊥)
    → result ≡ chain.MemoryOut
only_memory Wrong result is right = absurd (right refl)
only_memory MemoryOut result is right = is

-- where only memory can be wanted, the key is not wrong
pub not_wrong : (key : Key) (result : Result Key Unopened) → result ≡ Err Wrong
    → MatchResult result (λ found. found ≡ key) (λ fault. fault ≡ MemoryOut) → ⊥
not_wrong key (Ok found) e h = absurd cc
not_wrong key (Err fault) e h = absurd cc

-- what is a wrong key to the caller was one
pub was_wrong : {T : Type 0} (fault : Unopened) (result : ChainFault) → result ≡ chain_fault fault
    → ◌≡◌ {A = Result T ChainFault} (Err result) (Err chain.StashWrong) → fault ≡ Wrong
was_wrong Wrong result is e = refl
was_wrong MemoryOut result is e = absurd cc
