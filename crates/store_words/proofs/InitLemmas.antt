-- With which status a layout ends.
use Rattle.std.proofs.Common.{◌≡◌, ◌⊎◌, ⊎_elim, sym, subst}
use Rattle.shell_base.specs.declared.status.Status.{Status}
use Rattle.shell_base.specs.declared.status.Status.TheVariants.{Done, AlreadyStore, DiskFault, SayFault}
use Rattle.shell_base.specs.Status.{IsOfInit}

-- where a store is there already, or the output fails to say so
pub in_made : (status : Status) → (status ≡ AlreadyStore) ⊎ (status ≡ SayFault) → IsOfInit status
in_made status ends = ⊎_elim (λ (is : status ≡ AlreadyStore). subst IsOfInit (sym is) tt) (λ (is : status ≡ SayFault). subst IsOfInit (sym is) tt) ends

pub not_made : (status : Status) → (status ≡ AlreadyStore) ⊎ (status ≡ SayFault) → status ≡ Done → ⊥
not_made status ends done = ⊎_elim (λ (is : status ≡ AlreadyStore). cc (is, done)) (λ (is : status ≡ SayFault). cc (is, done)) ends

pub not_failed : (status : Status) → (status ≡ AlreadyStore) ⊎ (status ≡ SayFault) → status ≡ DiskFault → ⊥
not_failed status ends fault = ⊎_elim (λ (is : status ≡ AlreadyStore). cc (is, fault)) (λ (is : status ≡ SayFault). cc (is, fault)) ends
