-- What TightLists states by `F.Pre` and `F.Post`, proved. Assumes nothing.
use mathlib.Core.Path.{refl, sym, ◌∙◌}
use Rattle.card.proofs.AnswerLaws.{counted-one}
use Rattle.promises_tight.specs.TightLists.{ListContracts, InnerLists}

pub list-contracts : ListContracts
list-contracts =
    record {
      of_list = λ κs a. (tt, λ x y s t p q. (counted-one x y (p.0 ∙ sym q.0), p.1 ∙ sym q.1));
      of_read_list = λ κs a. (tt, λ x y s t p q. (counted-one x y (p.0 ∙ sym q.0), p.1 ∙ sym q.1));
      of_store_list = λ κs a. (tt, λ x y s t p q. (p.0 ∙ sym q.0, p.1 ∙ sym q.1));
      of_store_read_list = λ κs a. (tt, λ x y s t p q. (p.0 ∙ sym q.0, p.1 ∙ sym q.1));
    }

pub inner-lists : InnerLists
inner-lists = record { of_list = λ κs a. (refl, λ x s. refl); of_fitting_list = λ κs a. (refl, λ x s. refl) }
