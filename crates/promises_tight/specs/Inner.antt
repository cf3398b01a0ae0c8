-- What the contracts of inner functions cite besides the words of the papers: what such a function asks of its caller, and what it answers. Assumes nothing.
use Rattle.std.specs.Prelude.{◌≡◌, List, ℕ}
use borrow.Fn.Kinds.{ParamKind, ResultKind, In, Out, Dens, res_t, ended_of}
use seplogic.Ra.Ura.{Ura}
use base.Logic.{SProp}
use prog.Memory.{Memory}
use prog.Routine.{Routine}
use types.Logic.{Logic}
use contract.Monad.{Fun, fact}
use contract.Lifetimes.{Lfts}
use denote.Triple.Entry.{Args, Res}
use denote.Triple.Clauses.{Ended, AtExit, Clauses}
use Rattle.store_edit.proofs.put.Kinds as put_is
use Rattle.store_edit.proofs.put.Reads as put
use Rattle.store_edit.proofs.put_fitting.Reads as put_fitting
use Rattle.store_edit.proofs.put_at.Kinds as put_at_is
use Rattle.store_edit.proofs.put_at.Reads as put_at
use Rattle.store_edit.proofs.put_at_fitting.Reads as put_at_fitting
use Rattle.store_edit.proofs.remove.Kinds as remove_is
use Rattle.store_edit.proofs.remove.Reads as remove
use Rattle.store_edit.proofs.remove_fitting.Reads as remove_fitting
use Rattle.store_look.proofs.get.Kinds as get_is
use Rattle.store_look.proofs.get.Reads as get
use Rattle.store_look.proofs.get_fitting.Reads as get_fitting
use Rattle.store_look.proofs.free.Kinds as free_is
use Rattle.store_look.proofs.free.Reads as free
use Rattle.store_look.proofs.free_fitting.Reads as free_fitting
use Rattle.store_look.proofs.line.Kinds as line_is
use Rattle.store_look.proofs.line.Reads as line
use Rattle.store_look.proofs.line_fitting.Reads as line_fitting
use Rattle.store_listing.specs.contracts.list as list
use Rattle.store_listing.specs.contracts.list_fitting as list_fitting
use Rattle.store_card.proofs.land.Kinds as land_is
use Rattle.store_card.proofs.land.Reads as land
use Rattle.store_card.proofs.land_fitting.Reads as land_fitting
use Rattle.store_card.proofs.sync.Kinds as sync_is
use Rattle.store_card.proofs.sync.Reads as sync
use Rattle.store_card.proofs.sync_fitting.Reads as sync_fitting
use Rattle.store_card.proofs.unmount.Kinds as unmount_is
use Rattle.store_card.proofs.unmount.Reads as unmount
use Rattle.store_card.proofs.unmount_fitting.Reads as unmount_fitting
use Rattle.host.proofs.store_put.Kinds as store_put_is
use Rattle.host.proofs.store_put.Reads as store_put
use Rattle.fitting.proofs.fitting_put.Reads as fitting_put
use Rattle.host.proofs.store_put_at.Kinds as store_put_at_is
use Rattle.host.proofs.store_put_at.Reads as store_put_at
use Rattle.fitting.proofs.fitting_put_at.Reads as fitting_put_at
use Rattle.host.proofs.store_remove.Kinds as store_remove_is
use Rattle.host.proofs.store_remove.Reads as store_remove
use Rattle.fitting.proofs.fitting_remove.Reads as fitting_remove
use Rattle.host.proofs.store_get.Kinds as store_get_is
use Rattle.host.proofs.store_get.Reads as store_get
use Rattle.fitting.proofs.fitting_get.Reads as fitting_get
use Rattle.lists.specs.contracts.store_list as store_list
use Rattle.fitting.specs.contracts.fitting_list as fitting_list
use Rattle.host.proofs.store_free.Kinds as store_free_is
use Rattle.host.proofs.store_free.Reads as store_free
use Rattle.fitting.proofs.fitting_free.Reads as fitting_free
use Rattle.host.proofs.store_land.Kinds as store_land_is
use Rattle.host.proofs.store_land.Reads as store_land
use Rattle.fitting.proofs.fitting_land.Reads as fitting_land
use Rattle.host.proofs.store_sync.Kinds as store_sync_is
use Rattle.host.proofs.store_sync.Reads as store_sync
use Rattle.fitting.proofs.fitting_sync.Reads as fitting_sync
use Rattle.host.proofs.store_sync_count.Kinds as store_sync_count_is
use Rattle.host.proofs.store_sync_count.Reads as store_sync_count
use Rattle.fitting.proofs.fitting_sync_count.Reads as fitting_sync_count
use Rattle.host.proofs.store_unmount.Kinds as store_unmount_is
use Rattle.host.proofs.store_unmount.Reads as store_unmount
use Rattle.fitting.proofs.fitting_unmount.Reads as fitting_unmount
use Rattle.store.specs.Inner.{FitOf, FitOn}
use Rattle.host_crossing.specs.Crossing.{decoded}

-- an inner call's contract (Pre, Post) beside that of the public call with the same parameters: it asks what `Asks` says, and says what that call says
module _ (n : ℕ) (ps : List (ParamKind n)) (r : ResultKind n) (Asks Pre : In n ps) (Post Tested : Out n ps r) where
  abbrev pub Inner : Type 1
  Inner =
      (κs : Lfts n) (a : Dens κs ps)
      → (Pre κs a ≡ Asks κs a) × ((x : (res_t r κs).Denot) (s : AtExit (ended_of n ps r) κs) → Post κs a x s ≡ Tested κs a x s)

-- the same of list over a lent table of lines, of what its contracts (T; Said, Tested) say as clauses of the kit's logic
module _ (T : Ended) (Said Tested : (M : Type 1) (𝓤 : Ura M) → (𝓛 : Logic 𝓤) → (Memory → SProp 𝓤) → (Routine → Fun 𝓤) → Clauses 𝓤 T) where
  pub record InnerLines (Asks : (κs : Lfts T.signature.lifetimes) → Args T.signature κs → Type 0) : Type 2 where
    pub asks : (M : Type 1) (𝓤 : Ura M) (𝓛 : Logic 𝓤) (mem : Memory → SProp 𝓤) (run : Routine → Fun 𝓤) (κs : Lfts T.signature.lifetimes)
        (a : Args T.signature κs) (g : (Said M 𝓤 𝓛 mem run κs a).ghost) → (Said M 𝓤 𝓛 mem run κs a).requires g ≡ fact 𝓤 (Asks κs a)
    pub says : (M : Type 1) (𝓤 : Ura M) (𝓛 : Logic 𝓤) (mem : Memory → SProp 𝓤) (run : Routine → Fun 𝓤) (κs : Lfts T.signature.lifetimes)
        (a : Args T.signature κs) (g : (Said M 𝓤 𝓛 mem run κs a).ghost) (h : (Tested M 𝓤 𝓛 mem run κs a).ghost) (r : Res T.signature κs) (s : AtExit T κs)
        → (Said M 𝓤 𝓛 mem run κs a).ensures g r s ≡ (Tested M 𝓤 𝓛 mem run κs a).ensures h r s

-- `a.0` is the first parameter, `a.1.0` the second, and so on
pub record InnerCalls : Type 2 where
  pub of_put : Inner 3 put_is.ps put_is.r (λ κs a. FitOf a.0 a.1.0.now) put_fitting.Pre put_fitting.Post put.Post
  pub of_put_at : Inner 3 put_at_is.ps put_at_is.r (λ κs a. FitOf a.0 a.1.0.now) put_at_fitting.Pre put_at_fitting.Post put_at.Post
  pub of_remove : Inner 2 remove_is.ps remove_is.r (λ κs a. FitOf a.0 a.1.0.now) remove_fitting.Pre remove_fitting.Post remove.Post
  pub of_get : Inner 3 get_is.ps get_is.r (λ κs a. FitOf a.0 a.1.0.now) get_fitting.Pre get_fitting.Post get.Post
  pub of_list : InnerLines list.ended (λ M 𝓤 𝓛. list_fitting.clauses 𝓛) (λ M 𝓤 𝓛. list.clauses 𝓛) (λ κs a. FitOf a.0 a.1.0.now)
  pub of_free : Inner 1 free_is.ps free_is.r (λ κs a. FitOf a.0 a.1.0.now) free_fitting.Pre free_fitting.Post free.Post
  pub of_line : Inner 1 line_is.ps line_is.r (λ κs a. FitOf a.0 a.1.0.now) line_fitting.Pre line_fitting.Post line.Post
  pub of_land : Inner 2 land_is.ps land_is.r (λ κs a. FitOn a.0 a.1.0.now a.1.1.0.now) land_fitting.Pre land_fitting.Post land.Post
  pub of_sync : Inner 2 sync_is.ps sync_is.r (λ κs a. FitOn a.0 a.1.0.now a.1.1.0.now) sync_fitting.Pre sync_fitting.Post sync.Post
  pub of_unmount : Inner 2 unmount_is.ps unmount_is.r (λ κs a. FitOn a.0 a.1.0.now a.1.1.0.now) unmount_fitting.Pre unmount_fitting.Post unmount.Post
  pub of_fitting_put : Inner 4 store_put_is.ps store_put_is.r (λ κs a. FitOf (decoded a.0.now) a.1.0.now) fitting_put.Pre fitting_put.Post store_put.Post
  pub of_fitting_put_at : Inner 4 store_put_at_is.ps store_put_at_is.r (λ κs a. FitOf (decoded a.0.now) a.1.0.now) fitting_put_at.Pre fitting_put_at.Post store_put_at.Post
  pub of_fitting_remove : Inner 3 store_remove_is.ps store_remove_is.r (λ κs a. FitOf (decoded a.0.now) a.1.0.now) fitting_remove.Pre fitting_remove.Post store_remove.Post
  pub of_fitting_get : Inner 4 store_get_is.ps store_get_is.r (λ κs a. FitOf (decoded a.0.now) a.1.0.now) fitting_get.Pre fitting_get.Post store_get.Post
  pub of_fitting_list : InnerLines store_list.ended (λ M 𝓤 𝓛. fitting_list.clauses 𝓛) (λ M 𝓤 𝓛. store_list.clauses 𝓛) (λ κs a. FitOf (decoded a.0.now) a.1.0.now)
  pub of_fitting_free : Inner 3 store_free_is.ps store_free_is.r (λ κs a. FitOf (decoded a.0.now) a.1.0.now) fitting_free.Pre fitting_free.Post store_free.Post
  pub of_fitting_land : Inner 3 store_land_is.ps store_land_is.r (λ κs a. FitOf (decoded a.0.now) a.1.1.0.now) fitting_land.Pre fitting_land.Post store_land.Post
  pub of_fitting_sync : Inner 3 store_sync_is.ps store_sync_is.r (λ κs a. FitOf (decoded a.0.now) a.1.1.0.now) fitting_sync.Pre fitting_sync.Post store_sync.Post
  pub of_fitting_sync_count : Inner 3 store_sync_count_is.ps store_sync_count_is.r (λ κs a. FitOf (decoded a.0.now) a.1.1.0.now) fitting_sync_count.Pre fitting_sync_count.Post store_sync_count.Post
  pub of_fitting_unmount : Inner 3 store_unmount_is.ps store_unmount_is.r (λ κs a. FitOf (decoded a.0.now) a.1.1.0.now) fitting_unmount.Pre fitting_unmount.Post store_unmount.Post
