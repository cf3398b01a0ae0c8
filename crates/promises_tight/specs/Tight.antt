-- Demand 1, "for all inputs; a proof shows that two results meeting it are equal": stated of the contracts that the functions are proved to meet.
-- `F.Pre` and `F.Post` are the kit's reading of function F's own `requires` and `ensures`: a contract that is cut down or asks for something is
-- refused here. The calls over a lent table of lines are in TightLists. Assumes nothing.
use Rattle.std.specs.Prelude.{◌≡◌, List, [], ◌∷◌, ℕ}
use contract.Lifetimes.{Lfts}
use denote.Triple.Clauses.{AtExit}
use borrow.Fn.Kinds.{ParamKind, ResultKind, In, Out, Dens, res_t, ended_of}
use Rattle.card_fresh.proofs.make.Kinds as make_is
use Rattle.card_fresh.proofs.make.Reads as make
use Rattle.store_card.proofs.mount.Kinds as mount_is
use Rattle.store_card.proofs.mount.Reads as mount
use Rattle.store_card.proofs.mount_tests.Kinds as mount_tests_is
use Rattle.store_card.proofs.mount_tests.Reads as mount_tests
use Rattle.store_edit.proofs.put.Kinds as put_is
use Rattle.store_edit.proofs.put.Reads as put
use Rattle.store_edit.proofs.put_at.Kinds as put_at_is
use Rattle.store_edit.proofs.put_at.Reads as put_at
use Rattle.store_edit.proofs.remove.Kinds as remove_is
use Rattle.store_edit.proofs.remove.Reads as remove
use Rattle.store_look.proofs.get.Kinds as get_is
use Rattle.store_look.proofs.get.Reads as get
use Rattle.store_look.proofs.free.Kinds as free_is
use Rattle.store_look.proofs.free.Reads as free
use Rattle.store_look.proofs.line.Kinds as line_is
use Rattle.store_look.proofs.line.Reads as line
use Rattle.store_card.proofs.land.Kinds as land_is
use Rattle.store_card.proofs.land.Reads as land
use Rattle.store_card.proofs.sync.Kinds as sync_is
use Rattle.store_card.proofs.sync.Reads as sync
use Rattle.store_card.proofs.unmount.Kinds as unmount_is
use Rattle.store_card.proofs.unmount.Reads as unmount
use Rattle.card_read.proofs.read.Kinds as read_is
use Rattle.card_read.proofs.read.Reads as read
use Rattle.card_read.proofs.read_line.Kinds as read_line_is
use Rattle.card_read.proofs.read_line.Reads as read_line
use Rattle.card_read.proofs.read_get.Kinds as read_get_is
use Rattle.card_read.proofs.read_get.Reads as read_get
use Rattle.host.proofs.store_make.Kinds as store_make_is
use Rattle.host.proofs.store_make.Reads as store_make
use Rattle.host.proofs.store_read.Kinds as store_read_is
use Rattle.host.proofs.store_read.Reads as store_read
use Rattle.host.proofs.store_read_get.Kinds as store_read_get_is
use Rattle.host.proofs.store_read_get.Reads as store_read_get
use Rattle.host.proofs.store_mount.Kinds as store_mount_is
use Rattle.host.proofs.store_mount.Reads as store_mount
use Rattle.host.proofs.store_put.Kinds as store_put_is
use Rattle.host.proofs.store_put.Reads as store_put
use Rattle.host.proofs.store_remove.Kinds as store_remove_is
use Rattle.host.proofs.store_remove.Reads as store_remove
use Rattle.host.proofs.store_get.Kinds as store_get_is
use Rattle.host.proofs.store_get.Reads as store_get
use Rattle.host.proofs.store_free.Kinds as store_free_is
use Rattle.host.proofs.store_free.Reads as store_free
use Rattle.host.proofs.store_put_at.Kinds as store_put_at_is
use Rattle.host.proofs.store_put_at.Reads as store_put_at
use Rattle.host.proofs.store_sync.Kinds as store_sync_is
use Rattle.host.proofs.store_sync.Reads as store_sync
use Rattle.host.proofs.store_sync_count.Kinds as store_sync_count_is
use Rattle.host.proofs.store_sync_count.Reads as store_sync_count
use Rattle.host.proofs.store_unmount.Kinds as store_unmount_is
use Rattle.host.proofs.store_unmount.Reads as store_unmount
use Rattle.host.proofs.store_land.Kinds as store_land_is
use Rattle.host.proofs.store_land.Reads as store_land
use Rattle.host.proofs.store_mount_steps.Kinds as store_mount_steps_is
use Rattle.host.proofs.store_mount_steps.Reads as store_mount_steps
use Rattle.host.proofs.store_sync_steps.Kinds as store_sync_steps_is
use Rattle.host.proofs.store_sync_steps.Reads as store_sync_steps
use Rattle.host.proofs.store_unmount_steps.Kinds as store_unmount_steps_is
use Rattle.host.proofs.store_unmount_steps.Reads as store_unmount_steps

-- a contract of n lifetimes, parameters ps and result r asks nothing of its caller, and determines the result and what is `seen` at the end: the
-- contents of every buffer that is lent to be written
module _ (n : ℕ) (ps : List (ParamKind n)) (r : ResultKind n) (Pre : In n ps) (Post : Out n ps r) where
  abbrev pub Tight : ((κs : Lfts n) → AtExit (ended_of n ps r) κs → List (List ℕ)) → Type 0
  Tight seen =
      (κs : Lfts n) (a : Dens κs ps) → Pre κs a
      × ((x y : (res_t r κs).Denot) (s t : AtExit (ended_of n ps r) κs) → Post κs a x s → Post κs a y t → (x ≡ y) × (seen κs s ≡ seen κs t))

-- `s.0` is the first parameter at the end, `s.1.0` the second, and so on
pub record Contracts : Type 0 where
  pub of_make : Tight 1 make_is.ps make_is.r make.Pre make.Post (λ κs s. s.1.0.now ∷ [])
  pub of_mount : Tight 2 mount_is.ps mount_is.r mount.Pre mount.Post (λ κs s. s.0.now ∷ s.1.0.now ∷ [])
  pub of_mount_tests : Tight 2 mount_tests_is.ps mount_tests_is.r mount_tests.Pre mount_tests.Post (λ κs s. [])
  pub of_put : Tight 3 put_is.ps put_is.r put.Pre put.Post (λ κs s. s.1.0.now ∷ [])
  pub of_put_at : Tight 3 put_at_is.ps put_at_is.r put_at.Pre put_at.Post (λ κs s. s.1.0.now ∷ [])
  pub of_remove : Tight 2 remove_is.ps remove_is.r remove.Pre remove.Post (λ κs s. s.1.0.now ∷ [])
  pub of_get : Tight 3 get_is.ps get_is.r get.Pre get.Post (λ κs s. s.1.1.1.0.now ∷ [])
  pub of_free : Tight 1 free_is.ps free_is.r free.Pre free.Post (λ κs s. [])
  pub of_line : Tight 1 line_is.ps line_is.r line.Pre line.Post (λ κs s. [])
  pub of_land : Tight 2 land_is.ps land_is.r land.Pre land.Post (λ κs s. s.1.0.now ∷ [])
  pub of_sync : Tight 2 sync_is.ps sync_is.r sync.Pre sync.Post (λ κs s. s.1.0.now ∷ s.1.1.0.now ∷ [])
  pub of_unmount : Tight 2 unmount_is.ps unmount_is.r unmount.Pre unmount.Post (λ κs s. s.1.0.now ∷ s.1.1.0.now ∷ [])
  pub of_read : Tight 1 read_is.ps read_is.r read.Pre read.Post (λ κs s. [])
  pub of_read_line : Tight 1 read_line_is.ps read_line_is.r read_line.Pre read_line.Post (λ κs s. [])
  pub of_read_get : Tight 3 read_get_is.ps read_get_is.r read_get.Pre read_get.Post (λ κs s. s.1.1.0.now ∷ [])
  pub of_store_make : Tight 1 store_make_is.ps store_make_is.r store_make.Pre store_make.Post (λ κs s. s.1.1.1.0.now ∷ [])
  pub of_store_read : Tight 2 store_read_is.ps store_read_is.r store_read.Pre store_read.Post (λ κs s. s.1.0.now ∷ [])
  pub of_store_read_get : Tight 3 store_read_get_is.ps store_read_get_is.r store_read_get.Pre store_read_get.Post (λ κs s. s.1.1.0.now ∷ [])
  pub of_store_mount : Tight 3 store_mount_is.ps store_mount_is.r store_mount.Pre store_mount.Post (λ κs s. s.1.1.0.now ∷ s.0.now ∷ s.1.0.now ∷ [])
  pub of_store_put : Tight 4 store_put_is.ps store_put_is.r store_put.Pre store_put.Post (λ κs s. s.1.0.now ∷ [])
  pub of_store_put_at : Tight 4 store_put_at_is.ps store_put_at_is.r store_put_at.Pre store_put_at.Post (λ κs s. s.1.0.now ∷ [])
  pub of_store_remove : Tight 3 store_remove_is.ps store_remove_is.r store_remove.Pre store_remove.Post (λ κs s. s.1.0.now ∷ [])
  pub of_store_get : Tight 4 store_get_is.ps store_get_is.r store_get.Pre store_get.Post (λ κs s. s.1.1.1.0.now ∷ [])
  pub of_store_free : Tight 3 store_free_is.ps store_free_is.r store_free.Pre store_free.Post (λ κs s. s.1.1.0.now ∷ [])
  pub of_store_sync : Tight 3 store_sync_is.ps store_sync_is.r store_sync.Pre store_sync.Post (λ κs s. s.0.now ∷ s.1.0.now ∷ s.1.1.0.now ∷ [])
  pub of_store_sync_count : Tight 3 store_sync_count_is.ps store_sync_count_is.r store_sync_count.Pre store_sync_count.Post (λ κs s. s.0.now ∷ s.1.0.now ∷ s.1.1.0.now ∷ [])
  pub of_store_unmount : Tight 3 store_unmount_is.ps store_unmount_is.r store_unmount.Pre store_unmount.Post (λ κs s. s.0.now ∷ s.1.0.now ∷ s.1.1.0.now ∷ [])
  pub of_store_land : Tight 3 store_land_is.ps store_land_is.r store_land.Pre store_land.Post (λ κs s. s.1.0.now ∷ [])
  pub of_store_mount_steps : Tight 2 store_mount_steps_is.ps store_mount_steps_is.r store_mount_steps.Pre store_mount_steps.Post (λ κs s. s.0.now ∷ [])
  pub of_store_sync_steps : Tight 3 store_sync_steps_is.ps store_sync_steps_is.r store_sync_steps.Pre store_sync_steps.Post (λ κs s. s.1.0.now ∷ [])
  pub of_store_unmount_steps : Tight 3 store_unmount_steps_is.ps store_unmount_steps_is.r store_unmount_steps.Pre store_unmount_steps.Post (λ κs s. s.1.0.now ∷ [])
