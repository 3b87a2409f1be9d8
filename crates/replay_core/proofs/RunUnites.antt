-- The groups of a run unite to it.
use Rattle.std.proofs.Common.{◌≡◌, ℕ, List, [], ◌∷◌, map, sym, ap, ◌∙◌, sum_by, flat_map}
use Rattle.std.specs.List.{range_with_len}
use Rattle.std.proofs.lemmas.List.Concat.{flat_map_single}
use Rattle.replay_core.specs.Vocabulary.{IsStrictlyIncreasing, ScriptMeant, Made, Firing, number_of}
use Rattle.replay_core.specs.Groups.{Grouping, AreGrouped, over_groups}
use Rattle.replay_core.specs.Meaning.{contributions_of, exit_of, history, numbers_of, texts_of}
use Rattle.replay_core.specs.Meaning.{blank_threads}
use Rattle.replay_core.specs.Uniting.{GroupsMakeUp, first_exit, group_history, with_number}
use Rattle.replay_core.proofs.GroupSums.{flat_same, part, parts_read}
use Rattle.replay_core.proofs.GroupTexts.{climbs_history, group_in, grouped_history, texts_in_order}
use Rattle.replay_core.proofs.GroupTexts.{texts_unite}
use Rattle.replay_core.proofs.GroupExits.{exits_unite, map_same}
use Rattle.replay_core.proofs.Restricting.{group_restricts}

pub groups_unite : (m : ScriptMeant) (grouping : Grouping) (fs : List Firing) → AreGrouped grouping fs → IsStrictlyIncreasing (map number_of fs) → GroupsMakeUp m grouping fs
groups_unite m grouping fs grouped rises =
    let n = grouping.count in
    let r = history m fs blank_threads in
    let group = group_in grouping in
    let up = climbs_history m fs blank_threads rises in
    let each = grouped_history m grouping fs blank_threads grouped in
    record {
      texts = record {
        order = texts_in_order r up;
        each = λ k. texts_unite k group n r up each ∙ ap (with_number k) (sym (joined texts_of));
      };
      contributions = λ h. ap (sum_by h) (joined contributions_of) ∙ parts_read group (λ x. x.1.contributions) n h r each;
      numbers = λ h. ap (sum_by h) (joined numbers_of ∙ flat_same (λ g. numbers_of (part group g r)) (λ g. flat_map number_in (part group g r)) (range_with_len 0 n) (λ g. sym (flat_map_single (λ (x : Firing × Made). x.0.number) (part group g r))))
          ∙ parts_read group number_in n h r each ∙ ap (sum_by h) (flat_map_single (λ (x : Firing × Made). x.0.number) r);
      exit = ap first_exit (map_same (λ g. exit_of (group_history m grouping fs g)) (λ g. exit_of (part group g r)) (range_with_len 0 n) (λ g. ap exit_of (group_restricts m grouping fs g)))
          ∙ exits_unite group n r up each;
    }
  where
    joined : {A : Type 0} (read : List (Firing × Made) → List A)
        → over_groups grouping (λ g. read (group_history m grouping fs g)) ≡ flat_map (λ g. read (part (group_in grouping) g (history m fs blank_threads))) (range_with_len 0 grouping.count)
    joined read = flat_same (λ g. read (group_history m grouping fs g)) (λ g. read (part (group_in grouping) g (history m fs blank_threads))) (range_with_len 0 grouping.count) (λ g. ap read (group_restricts m grouping fs g))

    number_in : Firing × Made → List ℕ
    number_in x = x.0.number ∷ []
