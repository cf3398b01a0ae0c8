-- Everything that is promised, proved: one theorem, made of those of the parts. Assumes nothing.
use Rattle.std.specs.Prelude.{Some, None}
use mathlib.Core.List.{List}
use Prim.Native.Nat.{ℕ}
use Rattle.session.specs.Session.{Session}
use Rattle.session.proofs.FitMeansProved.{fits-mean}
use Rattle.store.specs.Inner.{FitOf}
use Rattle.promises_answers.proofs.RowLaws.{gives_one}
use Rattle.promises_answers.proofs.Numbers.NumbersProved.{numbers}
use Rattle.promises_answers.proofs.RefusalsProved.{refusals}
use Rattle.promises_crash.proofs.NoTwoProved.{no-two, in-table}
use Rattle.promises_answers.proofs.ShownProved.{all-show}
use Rattle.promises_answers.proofs.AnswersProved.{put-answers, remove-answers}
use Rattle.promises_crash.proofs.SteadyProved.{make-shows, mount-shows, mount-cut, sync-same, unmount-shows, land-shows, refused-same}
use Rattle.promises_answers.proofs.PlacesProved.{put-places, remove_places}
use Rattle.promises_answers.proofs.UntouchedProved.{put-changes, remove-changes}
use Rattle.promises_answers.proofs.PairLeavesProved.{put-pairs, remove-pairs}
use Rattle.promises_answers.proofs.BarriersProved.{mount-barriers, sync-barriers, unmount-barriers}
use Rattle.promises_crash.proofs.Leaves.LeavesProved.{land-changes, mount-changes, sync-changes, unmount-changes, counts-nothing}
use Rattle.promises_crash.proofs.Along.AlongProved.{simulation}
use Rattle.promises_crash.specs.FitKept.{FitsIn}
use Rattle.promises_crash.proofs.Fit.FitKeptProved.{keeps-fit}
use Rattle.promises_crash.proofs.Demand.{demand-three, card-possible}
use Rattle.promises_crash.proofs.Possible.{steps-possible}
use Rattle.promises_crash.proofs.WholeProved.{cuts-read-whole}
use Rattle.promises_crash.proofs.SharpProved.{unmount-sharp}
use Rattle.promises_crash.proofs.Free.FreeProved.{free-promise}
use Rattle.promises_crash.proofs.Free.FreeMount.{mount-free}
use Rattle.promises_crash.proofs.FewerProved.{as_before, counts}
use Rattle.promises_crash.proofs.BoundProved.{bounds, closer}
use Rattle.promises_answers.proofs.GoalsProved.{goals}
use Rattle.promises_crash.proofs.FieldProved.{demand-three-field, since, fits-since}
use Rattle.promises_crash.proofs.Host.HostStops.{host-histories}
use Rattle.promises_crash.proofs.Host.HostFitsProved.{host-fits}
use Rattle.promises_crash.proofs.WorriesProved.{sync-at-top, worn-only-looks, no-count-above, counts-used-up}
use Rattle.promises_crash.proofs.Wakes.{none-wakes}
use Rattle.promises.specs.Promises.{Promises}

-- the test of a fit, as its clauses
fits-say : (o : Session) (work : List ℕ) → FitOf o work → FitsIn o work
fits-say None work f = tt
fits-say (Some s) work f = (fits-mean s work).0 f

pub promises : Promises
promises =
    record {
      numbers = numbers;
      one_number = gives_one;
      in_table = in-table;
      refusals = refusals;
      refused_stay = refused-same;
      plain_list = simulation;
      shows = all-show;
      put_answers = put-answers;
      remove_answers = remove-answers;
      make_shows = make-shows;
      mount_shows = mount-shows;
      mount_cut = mount-cut;
      sync_shows = sync-same;
      unmount_shows = unmount-shows;
      land_shows = land-shows;
      put_places = put-places;
      remove_places = remove_places;
      put_leaves = put-changes;
      remove_leaves = remove-changes;
      put_pairs = put-pairs;
      remove_pairs = remove-pairs;
      mount_leaves = mount-changes;
      land_leaves = land-changes;
      sync_leaves = sync-changes;
      unmount_leaves = unmount-changes;
      counts_nothing = counts-nothing;
      keeps_fit = keeps-fit;
      always_fits = λ w r. fits-say w.session w.work (fits-since r);
      no_two = λ w r. no-two r;
      mount_barriers = mount-barriers;
      sync_barriers = sync-barriers;
      unmount_barriers = unmount-barriers;
      cuts = demand-three;
      cuts_read = cuts-read-whole;
      sharp = unmount-sharp;
      possible = λ w r. (card-possible w r).0;
      possible_in = steps-possible;
      free_figures = free-promise;
      mount_free = mount-free;
      as_before = as_before;
      counts = counts;
      bounds = bounds;
      closer = closer;
      goals = goals;
      host_histories = host-histories;
      host_fits = host-fits;
      every_cut = demand-three-field;
      from_fresh = λ w r. since r;
      sync_at_top = sync-at-top;
      worn_only_looks = worn-only-looks;
      no_count_above = no-count-above;
      counts_used_up = counts-used-up;
      none_wakes = none-wakes;
    }
