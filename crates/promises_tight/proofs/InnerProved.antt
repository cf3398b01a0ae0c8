-- What Inner states, proved. Assumes nothing.
use mathlib.Core.Path.{refl}
use Rattle.promises_tight.specs.Inner.{InnerCalls}

pub inner-calls : InnerCalls
inner-calls =
    record {
      of_put = λ κs a. (refl, λ x s. refl);
      of_put_at = λ κs a. (refl, λ x s. refl);
      of_remove = λ κs a. (refl, λ x s. refl);
      of_get = λ κs a. (refl, λ x s. refl);
      of_list = record { asks = λ M 𝓤 𝓛 mem run κs a g. refl; says = λ M 𝓤 𝓛 mem run κs a g h r s. refl };
      of_free = λ κs a. (refl, λ x s. refl);
      of_line = λ κs a. (refl, λ x s. refl);
      of_land = λ κs a. (refl, λ x s. refl);
      of_sync = λ κs a. (refl, λ x s. refl);
      of_unmount = λ κs a. (refl, λ x s. refl);
      of_fitting_put = λ κs a. (refl, λ x s. refl);
      of_fitting_put_at = λ κs a. (refl, λ x s. refl);
      of_fitting_remove = λ κs a. (refl, λ x s. refl);
      of_fitting_get = λ κs a. (refl, λ x s. refl);
      of_fitting_list = record { asks = λ M 𝓤 𝓛 mem run κs a g. refl; says = λ M 𝓤 𝓛 mem run κs a g h r s. refl };
      of_fitting_free = λ κs a. (refl, λ x s. refl);
      of_fitting_land = λ κs a. (refl, λ x s. refl);
      of_fitting_sync = λ κs a. (refl, λ x s. refl);
      of_fitting_sync_count = λ κs a. (refl, λ x s. refl);
      of_fitting_unmount = λ κs a. (refl, λ x s. refl);
    }
