mod DecisionRows
mod HubRows
mod OpeningRows
mod RequestRows
