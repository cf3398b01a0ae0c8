-- The same of the four calls over a lent table of lines, of what their contracts say as clauses of the kit's logic. A call's clauses are shown to be
-- one plain fact, by `refl`, and that fact to determine the answer and every line. Assumes nothing.
use Rattle.std.specs.Prelude.{◌≡◌, refl, List, ℕ}
use Rattle.std.proofs.Common.{sym, ◌∙◌}
use seplogic.Ra.Ura.{Ura}
use base.Logic.{SProp, emp}
use prog.Memory.{Memory}
use prog.Routine.{Routine}
use types.Logic.{Logic}
use contract.Monad.{Fun, fact}
use contract.Lifetimes.{Lfts}
use borrow.Fn.Kinds.{ParamKind, ResultKind, In, Out, Dens, res_t, ended_of}
use denote.Triple.Entry.{Args, Res}
use denote.Triple.Clauses.{Ended, AtExit, Clauses}
use Rattle.card.specs.declared.Line.{Line}
use Rattle.card.specs.Answers.{counted}
use Rattle.card.proofs.AnswerLaws.{counted-one}
use Rattle.card.specs.Reading.{read_list}
use Rattle.store.specs.Inner.{FitOf}
use Rattle.store.specs.Look.{list}
use Rattle.host_crossing.specs.Crossing.{decoded}
use Rattle.store_listing.proofs.list.Kinds as list_kinds
use Rattle.store_listing.proofs.list.Reads as list_reads
use Rattle.store_listing.proofs.read_list.Kinds as read_list_kinds
use Rattle.store_listing.proofs.read_list.Reads as read_list_reads
use Rattle.store_listing.proofs.list_fitting.Reads as list_fitting_reads
use Rattle.fitting.proofs.fitting_list.Reads as fitting_list_reads
use Rattle.lists.proofs.store_list.Kinds as store_list_kinds
use Rattle.lists.proofs.store_list.Reads as store_list_reads
use Rattle.lists.proofs.store_read_list.Kinds as store_read_list_kinds
use Rattle.lists.proofs.store_read_list.Reads as store_read_list_reads
use Rattle.store_listing.specs.contracts.list as list_is
use Rattle.store_listing.specs.contracts.read_list as read_list_is
use Rattle.lists.specs.contracts.store_list as store_list_is
use Rattle.lists.specs.contracts.store_read_list as store_read_list_is
use Rattle.promises_tight.specs.Inner.{Inner}

-- the same by `F.Pre` and `F.Post`, as in Tight: a contract asks nothing of its caller, and determines the answer and the lines that are `seen` at the end
module _ (n : ℕ) (ps : List (ParamKind n)) (r : ResultKind n) (Pre : In n ps) (Post : Out n ps r) where
  abbrev pub TightLines : ((κs : Lfts n) → AtExit (ended_of n ps r) κs → List Line) → Type 0
  TightLines seen =
      (κs : Lfts n) (a : Dens κs ps) → Pre κs a
      × ((x y : (res_t r κs).Denot) (s t : AtExit (ended_of n ps r) κs) → Post κs a x s → Post κs a y t → (x ≡ y) × (seen κs s ≡ seen κs t))

pub record ListContracts : Type 0 where
  pub of_list : TightLines 2 list_kinds.ps list_kinds.r list_reads.Pre list_reads.Post (λ κs s. s.1.1.0.now)
  pub of_read_list : TightLines 2 read_list_kinds.ps read_list_kinds.r read_list_reads.Pre read_list_reads.Post (λ κs s. s.1.0.now)
  pub of_store_list : TightLines 3 store_list_kinds.ps store_list_kinds.r store_list_reads.Pre store_list_reads.Post (λ κs s. s.1.1.0.now)
  pub of_store_read_list : TightLines 2 store_read_list_kinds.ps store_read_list_kinds.r store_read_list_reads.Pre store_read_list_reads.Post (λ κs s. s.1.0.now)

-- the same of list in a session that fits, as in Inner: the contract asks that the session fits and nothing else, and ensures what the public call ensures
pub record InnerLists : Type 1 where
  pub of_list : Inner 2 list_kinds.ps list_kinds.r (λ κs a. FitOf a.0 a.1.0.now) list_fitting_reads.Pre list_fitting_reads.Post list_reads.Post
  pub of_fitting_list : Inner 3 store_list_kinds.ps store_list_kinds.r (λ κs a. FitOf (decoded a.0.now) a.1.0.now) fitting_list_reads.Pre fitting_list_reads.Post store_list_reads.Post

-- a contract T with these clauses asks nothing, and says the fact P of the arguments, the result and the parameters at the end; P determines the result
-- and the lines that are `seen` at the end
module _ (T : Ended) (clauses : (M : Type 1) (𝓤 : Ura M) → (𝓛 : Logic 𝓤) → (Memory → SProp 𝓤) → (Routine → Fun 𝓤) → Clauses 𝓤 T) where
  abbrev pub Fact : Type 1
  Fact = (κs : Lfts T.signature.lifetimes) → Args T.signature κs → Res T.signature κs → AtExit T κs → Type 0

  pub record Tight (P : Fact) (seen : (κs : Lfts T.signature.lifetimes) → AtExit T κs → List Line) : Type 2 where
    pub asks : (M : Type 1) (𝓤 : Ura M) (𝓛 : Logic 𝓤) (mem : Memory → SProp 𝓤) (run : Routine → Fun 𝓤) (κs : Lfts T.signature.lifetimes)
        (a : Args T.signature κs) (g : (clauses M 𝓤 𝓛 mem run κs a).ghost) → (clauses M 𝓤 𝓛 mem run κs a).requires g ≡ emp 𝓤
    pub says : (M : Type 1) (𝓤 : Ura M) (𝓛 : Logic 𝓤) (mem : Memory → SProp 𝓤) (run : Routine → Fun 𝓤) (κs : Lfts T.signature.lifetimes)
        (a : Args T.signature κs) (g : (clauses M 𝓤 𝓛 mem run κs a).ghost) (r : Res T.signature κs) (s : AtExit T κs)
        → (clauses M 𝓤 𝓛 mem run κs a).ensures g r s ≡ fact 𝓤 (P κs a r s)
    pub one : (κs : Lfts T.signature.lifetimes) (a : Args T.signature κs) (x y : Res T.signature κs) (s t : AtExit T κs) → P κs a x s → P κs a y t
        → (x ≡ y) × (seen κs s ≡ seen κs t)

pub list-tight : Tight list_is.ended (λ M 𝓤 𝓛. list_is.clauses 𝓛) (λ κs a r s. (counted r ≡ (list a.0 a.1.0.now a.1.1.0.now).answer) × (s.1.1.0.now ≡ (list a.0 a.1.0.now a.1.1.0.now).lines)) (λ κs s. s.1.1.0.now)
list-tight =
    record {
      asks = λ M 𝓤 𝓛 mem run κs a g. refl;
      says = λ M 𝓤 𝓛 mem run κs a g r s. refl;
      one = λ κs a x y s t p q. (counted-one x y (p.0 ∙ sym q.0), p.1 ∙ sym q.1);
    }

pub read_list-tight : Tight read_list_is.ended (λ M 𝓤 𝓛. read_list_is.clauses 𝓛) (λ κs a r s. (counted r ≡ (read_list a.0.now a.1.0.now).answer) × (s.1.0.now ≡ (read_list a.0.now a.1.0.now).lines)) (λ κs s. s.1.0.now)
read_list-tight =
    record {
      asks = λ M 𝓤 𝓛 mem run κs a g. refl;
      says = λ M 𝓤 𝓛 mem run κs a g r s. refl;
      one = λ κs a x y s t p q. (counted-one x y (p.0 ∙ sym q.0), p.1 ∙ sym q.1);
    }

pub store_list-tight : Tight store_list_is.ended (λ M 𝓤 𝓛. store_list_is.clauses 𝓛) (λ κs a r s. (r ≡ (list (decoded a.0.now) a.1.0.now a.1.1.0.now).answer) × (s.1.1.0.now ≡ (list (decoded a.0.now) a.1.0.now a.1.1.0.now).lines)) (λ κs s. s.1.1.0.now)
store_list-tight =
    record {
      asks = λ M 𝓤 𝓛 mem run κs a g. refl;
      says = λ M 𝓤 𝓛 mem run κs a g r s. refl;
      one = λ κs a x y s t p q. (p.0 ∙ sym q.0, p.1 ∙ sym q.1);
    }

pub store_read_list-tight : Tight store_read_list_is.ended (λ M 𝓤 𝓛. store_read_list_is.clauses 𝓛) (λ κs a r s. (r ≡ (read_list a.0.now a.1.0.now).answer) × (s.1.0.now ≡ (read_list a.0.now a.1.0.now).lines)) (λ κs s. s.1.0.now)
store_read_list-tight =
    record {
      asks = λ M 𝓤 𝓛 mem run κs a g. refl;
      says = λ M 𝓤 𝓛 mem run κs a g r s. refl;
      one = λ κs a x y s t p q. (p.0 ∙ sym q.0, p.1 ∙ sym q.1);
    }
