-- How a pair stands after it comes, leaves or a tick ends.
use Rattle.std.proofs.Common.{◌≡◌, true, false, ◌||◌, refl}
use Rattle.state_model.specs.Members.{differs}
use Rattle.view_members.specs.declared.standing.Standing.{Standing}
use Rattle.view_members.specs.declared.standing.Standing.TheVariants.{Stays, Came, Left, Passed, Spare}
use Rattle.view_members.specs.Standings.{is_now, is_last, is_kept, is_changed, is_passed, is_spare, after_coming, after_leaving}

pub coming_now : (s : Standing) → is_now (after_coming s) ≡ true
coming_now Stays = refl
coming_now Came = refl
coming_now Left = refl
coming_now Passed = refl
coming_now Spare = refl

pub coming_last : (s : Standing) → is_last (after_coming s) ≡ is_last s
coming_last Stays = refl
coming_last Came = refl
coming_last Left = refl
coming_last Passed = refl
coming_last Spare = refl

pub coming_kept : (s : Standing) → is_kept (after_coming s) ≡ true
coming_kept Stays = refl
coming_kept Came = refl
coming_kept Left = refl
coming_kept Passed = refl
coming_kept Spare = refl

pub coming_spare : (s : Standing) → is_spare (after_coming s) ≡ false
coming_spare Stays = refl
coming_spare Came = refl
coming_spare Left = refl
coming_spare Passed = refl
coming_spare Spare = refl

pub leaving_now : (s : Standing) → is_now (after_leaving s) ≡ false
leaving_now Stays = refl
leaving_now Came = refl
leaving_now Left = refl
leaving_now Passed = refl
leaving_now Spare = refl

pub leaving_last : (s : Standing) → is_last (after_leaving s) ≡ is_last s
leaving_last Stays = refl
leaving_last Came = refl
leaving_last Left = refl
leaving_last Passed = refl
leaving_last Spare = refl

pub leaving_kept : (s : Standing) → is_kept (after_leaving s) ≡ is_kept s
leaving_kept Stays = refl
leaving_kept Came = refl
leaving_kept Left = refl
leaving_kept Passed = refl
leaving_kept Spare = refl

pub leaving_spare : (s : Standing) → is_spare (after_leaving s) ≡ is_spare s
leaving_spare Stays = refl
leaving_spare Came = refl
leaving_spare Left = refl
leaving_spare Passed = refl
leaving_spare Spare = refl

-- what changed is a member at exactly one of both times
pub changed_differs : (s : Standing) → is_changed s ≡ differs (is_now s) (is_last s)
changed_differs Stays = refl
changed_differs Came = refl
changed_differs Left = refl
changed_differs Passed = refl
changed_differs Spare = refl

-- what didn't change is a member at both times or at neither
pub last_unchanged : (s : Standing) → is_changed s ≡ false → is_last s ≡ is_now s
last_unchanged Stays h = refl
last_unchanged Came h = cc
last_unchanged Left h = cc
last_unchanged Passed h = refl
last_unchanged Spare h = refl

-- what neither changed nor passed is kept where it is a member
pub kept_unchanged : (s : Standing) → is_changed s || is_passed s ≡ false → is_kept s ≡ is_now s
kept_unchanged Stays h = refl
kept_unchanged Came h = cc
kept_unchanged Left h = cc
kept_unchanged Passed h = cc
kept_unchanged Spare h = refl

-- all but room is kept
pub kept_not_spare : (s : Standing) → is_spare s ≡ false → is_kept s ≡ true
kept_not_spare Stays h = refl
kept_not_spare Came h = refl
kept_not_spare Left h = refl
kept_not_spare Passed h = refl
kept_not_spare Spare h = cc

-- what passed is told by no other test
pub passed_not_now : (s : Standing) → is_passed s ≡ true → is_now s ≡ false
passed_not_now Stays h = cc
passed_not_now Came h = cc
passed_not_now Left h = cc
passed_not_now Passed h = refl
passed_not_now Spare h = cc

pub passed_not_changed : (s : Standing) → is_passed s ≡ true → is_changed s ≡ false
passed_not_changed Stays h = cc
passed_not_changed Came h = cc
passed_not_changed Left h = cc
passed_not_changed Passed h = refl
passed_not_changed Spare h = cc

pub passed_not_spare : (s : Standing) → is_passed s ≡ true → is_spare s ≡ false
passed_not_spare Stays h = cc
passed_not_spare Came h = cc
passed_not_spare Left h = cc
passed_not_spare Passed h = refl
passed_not_spare Spare h = cc
